-- The contents of a whole archive, and what is reported of it.
use Rattle.std.proofs.Common.{◌≡◌, ℕ, ◌-◌, ◌%◌, ◌^◌, ◌<◌, ◌≤◌, true, false, cond, List, [], ◌++◌, length, take, drop}
use Rattle.std.proofs.Common.{replicate, Option, Some, None, Result, Ok, Err, ap, sym, ◌∙◌, refl, arith, append_assoc}
use Rattle.std.specs.Str.{bytes_eq}
use Rattle.std.specs.Int.{w64, to_le_bytes}
use Rattle.std.proofs.lemmas.List.{take_at, drop_at, drop-drop}
use Rattle.std.proofs.lemmas.Slice.Eq.{bytes_eq-Decides}
use Rattle.sha2.specs.Sha256.{sha256}
use Rattle.nar.specs.declared.error.NarError.{NarError}
use Rattle.nar.specs.String.{padded, string, length_at}
use Rattle.nar.specs.Tree.{Tree, regular, symlink, directory, Entries, IsBytes}
use Rattle.nar.specs.Archive.{archive, spelling, limit, IsArchive}
use Rattle.nar.specs.Outcome.{outcome_of}
use Rattle.nar.proofs.Strings.{length_at-string, is_written}
use Rattle.nar.proofs.Decided.{outcome_archive}
use Rattle.nar.proofs.Files.{head, close, length-head, in_three, length-file}
use Rattle.paths.specs.declared.facts.Facts.{Facts}
use Rattle.paths.specs.ContentAddress.{plain, plain_contents}
use Rattle.paths.specs.Facts.{hash_of, facts_of}
use Rattle.intake.specs.Contents.{plain_prefix, begins_plain, after_prefix, contents_so_far, hash_so_far}
use Rattle.intake.specs.Arrival.{fault_of, appended}

prefix_is : plain_prefix ≡ spelling head
unfolding plain_prefix
prefix_is = refl

-- the archive of such a file begins so, and its contents come after
file_begins : (c : List ℕ) → begins_plain (spelling (archive (regular false c))) ≡ true
file_begins c =
    ap (λ t. bytes_eq (take 88 t) plain_prefix) (in_three c)
    ∙ ap (λ t. bytes_eq t plain_prefix) (take_at (spelling head) (string c ++ spelling close) 88 length-head)
    ∙ (bytes_eq-Decides (spelling head) plain_prefix).1 (sym prefix_is)

file_contents : (c : List ℕ) → length c < 2 ^ 64 → after_prefix (spelling (archive (regular false c))) ≡ c
unfolding string
file_contents c small =
    let n = length c in
    let whole = spelling (archive (regular false c)) in
    let fill = replicate (padded n - n) 0 in
    let rest = string c ++ spelling close in
    let behind : drop 88 whole ≡ rest = ap (drop 88) (in_three c) ∙ drop_at (spelling head) rest 88 length-head in
    let grouped : rest ≡ to_le_bytes w64 n ++ (c ++ (fill ++ spelling close)) =
    append_assoc (to_le_bytes w64 n ++ c) fill (spelling close)
    ∙ append_assoc (to_le_bytes w64 n) c (fill ++ spelling close) in
    let contents : drop 96 whole ≡ c ++ (fill ++ spelling close) =
    sym (drop-drop 8 88 whole) ∙ ap (drop 8) (behind ∙ grouped)
    ∙ drop_at (to_le_bytes w64 n) (c ++ (fill ++ spelling close)) 8 refl in
    ap (λ k. take k (drop 96 whole)) (ap length_at behind ∙ length_at-string c (spelling close) small)
    ∙ ap (take n) contents
    ∙ take_at c (fill ++ spelling close) n refl

-- any other archive begins otherwise
executable_begins : (c : List ℕ) → begins_plain (spelling (archive (regular true c))) ≡ false
unfolding plain_prefix string
executable_begins c = refl

symlink_begins : (target : List ℕ) → begins_plain (spelling (archive (symlink target))) ≡ false
unfolding plain_prefix string
symlink_begins target = refl

directory_begins : (es : Entries) → begins_plain (spelling (archive (directory es))) ≡ false
unfolding plain_prefix string
directory_begins es = refl

by_file : (c bytes : List ℕ) → bytes ≡ spelling (archive (regular false c)) → length bytes ≤ limit
    → Some (sha256 c) ≡ hash_so_far bytes
by_file c bytes is fits =
    let small : length c < 2 ^ 64 = omega (arith, length-file c, ap length is) in
    let begins : begins_plain bytes ≡ true = ap begins_plain is ∙ file_begins c in
    sym (ap (λ b. cond b (Some (sha256 (cond b (after_prefix bytes) []))) None) begins
    ∙ ap (λ t. Some (sha256 t)) (ap after_prefix is ∙ file_contents c small))

by_other : (bytes : List ℕ) → begins_plain bytes ≡ false → None ≡ hash_so_far bytes
by_other bytes other = sym (ap (λ b. cond b (Some (sha256 (contents_so_far bytes))) None) other)

pub hash_is : (bytes : List ℕ) (t : Tree) → IsArchive t bytes → hash_of (plain t) ≡ hash_so_far bytes
hash_is bytes (regular false c) a = by_file c bytes a.spells a.fits
hash_is bytes (regular true c) a = by_other bytes (ap begins_plain a.spells ∙ executable_begins c)
hash_is bytes (symlink target) a = by_other bytes (ap begins_plain a.spells ∙ symlink_begins target)
hash_is bytes (directory es) a = by_other bytes (ap begins_plain a.spells ∙ directory_begins es)

-- ---- by the outcome

pub hash_of_archive : (bytes : List ℕ) → IsBytes bytes → (r : Result Tree NarError) → outcome_of bytes ≡ r
    → fault_of r ≡ None → hash_of (plain_contents r) ≡ hash_so_far bytes
hash_of_archive bytes are (Ok t) e none = hash_is bytes t ((outcome_archive bytes t are).0 e)
hash_of_archive bytes are (Err f) e none = let no : ⊥ = cc in absurd no

pub hash_of_fault : (r : Result Tree NarError) (f : NarError) → fault_of r ≡ Some f → hash_of (plain_contents r) ≡ None
hash_of_fault (Ok t) f is = let no : ⊥ = cc in absurd no
hash_of_fault (Err e) f is = refl

-- ---- a text as an archive

pub wrapped : (c front length' fill end : List ℕ) → front ≡ plain_prefix → length' ≡ to_le_bytes w64 (length c)
    → fill ≡ take ((8 - length c % 8) % 8) (replicate 8 0) → end ≡ spelling close
    → (((front ++ length') ++ c) ++ fill) ++ end ≡ spelling (archive (regular false c))
wrapped c front length' fill end f l p e =
    let text : ((front ++ length') ++ c) ++ fill ≡ front ++ string c =
    is_written front c length' (front ++ length') ((front ++ length') ++ c) (((front ++ length') ++ c) ++ fill) l
    refl refl (ap (λ t. ((front ++ length') ++ c) ++ t) p) in
    ap (λ t. t ++ end) text
    ∙ append_assoc front (string c) end
    ∙ ap (λ t. t ++ (string c ++ end)) (f ∙ prefix_is)
    ∙ ap (λ t. spelling head ++ (string c ++ t)) e
    ∙ sym (in_three c)

pub five : (i0 i1 i2 i3 i4 i5 : Option (List ℕ)) (a b c d e : List ℕ) → i0 ≡ Some [] → i1 ≡ appended i0 a
    → i2 ≡ appended i1 b → i3 ≡ appended i2 c → i4 ≡ appended i3 d → i5 ≡ appended i4 e
    → i5 ≡ Some ((((a ++ b) ++ c) ++ d) ++ e)
five i0 i1 i2 i3 i4 i5 a b c d e e0 e1 e2 e3 e4 e5 =
    e5 ∙ ap (λ i. appended i e) (e4
    ∙ ap (λ i. appended i d) (e3
    ∙ ap (λ i. appended i c) (e2 ∙ ap (λ i. appended i b) (e1 ∙ ap (λ i. appended i a) e0))))

-- ---- the facts

pub facts_are : (bytes hash : List ℕ) (size : ℕ) (reported : Option (List ℕ)) → hash ≡ sha256 bytes
    → size ≡ length bytes → reported ≡ hash_of (plain_contents (outcome_of bytes))
    → (let facts : Facts = record { nar_hash = hash; nar_size = size; plain = reported } in facts ≡ facts_of bytes)
facts_are bytes hash size reported h n p =
    ap (λ x. let facts : Facts = record { nar_hash = x; nar_size = size; plain = reported } in facts) h
    ∙ ap (λ x. let facts : Facts = record { nar_hash = sha256 bytes; nar_size = x; plain = reported } in facts) n
    ∙ ap (λ x. let facts : Facts = record { nar_hash = sha256 bytes; nar_size = length bytes; plain = x } in facts) p

-- In a sound world no root puts a line feed into a line.
use Rattle.std.proofs.Common.{◌≡◌, ℕ, ◌≤◌, List, ◌++◌, length, map, take, drop, slice_index, not, ◌&&◌, ◌==◌, codes}
use Rattle.std.proofs.Common.{decimal, Some, None, Option, is_some, refl, sym, ap, IsTrue, subst, inl, inr, arith}
use Rattle.std.proofs.Common.{nat_le, nat_lt, leb-true, eqb-true}
use Rattle.std.specs.Prelude.{Contains}
use Rattle.std.specs.List.{list_all, flat_map}
use Rattle.std.specs.FinMap as finite
use Rattle.std.specs.Cmp.Lexicographic.{nat_list_cmp_total}
use Rattle.std.specs.Cmp.{nat_cmp_total}
use Rattle.std.proofs.lemmas.Bool.{and_parts, false≢true}
use Rattle.std.proofs.lemmas.List.Elements.{Contains-append_cases}
use Rattle.paths.specs.Names.{is_plain_name, is_plain_byte, is_store_name, is_store_byte, is_dots, begins}
use Rattle.paths.specs.StorePath.{is_base_name}
use Rattle.paths.specs.Base32.{all_digits, value_of}
use Rattle.paths.specs.Root.{Root, is_runtime_label, is_label_byte}
use Rattle.live.proofs.Order.{member_ordered}
use Rattle.model.specs.World.{Path, Object, World, has, permanent_root, user_root, generation_root, generation_roots}
use Rattle.model.specs.World.{runtime_root, temporary_root, explicit_roots, runtime_roots, temporary_roots, roots_of}
use Rattle.model.specs.Sound.{IsSound}
use Rattle.model.proofs.MapMembers.{pair_total, temporary_total, listed_key, listed_entry}
use Rattle.model.proofs.Filtered.{from_mapped, from_joined}
use Rattle.report.specs.Laws.{omits}
use Rattle.report.proofs.Lacking.{omits_failing, omits_both, omits-decimal, omits_pieces}

-- ---- names

pub plain_omits : (name : List ℕ) → IsTrue (is_plain_name name) → IsTrue (omits 10 name)
plain_omits name h =
    omits_failing is_plain_byte 10 refl name
    (and_parts (nat_le 1 (length name) && nat_le (length name) 64 && not (slice_index name 0 == 45))
    (list_all is_plain_byte name) h).1

label_omits : (label : List ℕ) → IsTrue (is_runtime_label label) → IsTrue (omits 10 label)
label_omits label h =
    omits_failing is_label_byte 10 refl label
    (and_parts (nat_le 1 (length label) && nat_le (length label) 256) (list_all is_label_byte label) h).1

store_name_omits : (name : List ℕ) → IsTrue (is_store_name name) → IsTrue (omits 10 name)
store_name_omits name h =
    let a =
    and_parts (nat_le 1 (length name) && nat_le (length name) 211 && list_all is_store_byte name
    && not (is_dots name) && not (begins name (codes ".-"))) (not (begins name (codes "..-"))) h in
    let b =
    and_parts (nat_le 1 (length name) && nat_le (length name) 211 && list_all is_store_byte name
    && not (is_dots name)) (not (begins name (codes ".-"))) a.0 in
    let c =
    and_parts (nat_le 1 (length name) && nat_le (length name) 211 && list_all is_store_byte name)
    (not (is_dots name)) b.0 in
    omits_failing is_store_byte 10 refl name
    (and_parts (nat_le 1 (length name) && nat_le (length name) 211) (list_all is_store_byte name) c.0).1

digits_omit : (text : List ℕ) → IsTrue (all_digits text) → IsTrue (omits 10 text)
unfolding value_of
digits_omit text h = omits_failing (λ c. nat_lt (value_of c) 32) 10 refl text h

dash : (b : ℕ) → IsTrue (b == 45) → IsTrue (not (b == 10))
dash b h = subst (λ (c : ℕ). IsTrue (not (c == 10))) (sym (eqb-true b 45 h)) refl

pub base_omits : (p : Path) → IsTrue (is_base_name p) → IsTrue (omits 10 p)
base_omits p h =
    let a =
    and_parts (nat_le 34 (length p) && all_digits (take 32 p) && (slice_index p 32 == 45))
    (is_store_name (drop 33 p)) h in
    let b = and_parts (nat_le 34 (length p) && all_digits (take 32 p)) (slice_index p 32 == 45) a.0 in
    let c = and_parts (nat_le 34 (length p)) (all_digits (take 32 p)) b.0 in
    let long : 34 ≤ length p = leb-true 34 (length p) c.0 in
    omits_pieces 10 p 32 (omega (arith, long)) (digits_omit (take 32 p) c.1) (dash (slice_index p 32) b.1)
    (store_name_omits (drop 33 p) a.1)

-- ---- roots

-- a root whose label and target lack a line feed
abbrev pub Unbroken : Root → Type 0
Unbroken r = IsTrue (omits 10 r.label) × IsTrue (omits 10 r.target)

module _ (dir : List ℕ) (w : World) (sound : IsSound dir w) where
  present : (p : Path) (o : Option Object) → finite.get w.objects p ≡ o → IsTrue (is_some o) → IsTrue (is_base_name p)
  present p (Some o) e h = (sound.objects p o e).path
  present p None e h = absurd (false≢true h)

  target_lacks : (p : Path) → IsTrue (has w p) → IsTrue (omits 10 p)
  target_lacks p h = base_omits p (present p (finite.get w.objects p) refl h)

  permanents : (r : Root) → Contains (map permanent_root (finite.entries w.permanent)) r → Unbroken r
  permanents r c =
      let x = from_mapped permanent_root (finite.entries w.permanent) r c in
      let at = listed_entry nat_list_cmp_total w.permanent x.0 x.1 in
      subst Unbroken x.2 (
        omits_both 10 (codes "gcroots/") x.0.0 refl (plain_omits x.0.0 (sound.permanent_name x.0.0 (ap is_some at))),
        target_lacks x.0.1 (sound.permanent_target x.0.0 x.0.1 at),
      )

  owned_lacks : (prefix owner name : List ℕ) → IsTrue (omits 10 prefix) → IsTrue (is_plain_name owner)
      → IsTrue (is_plain_name name) → IsTrue (omits 10 (prefix ++ owner ++ codes "/" ++ name))
  owned_lacks prefix owner name f o n =
      omits_both 10 (prefix ++ owner ++ codes "/") name
      (omits_both 10 (prefix ++ owner) (codes "/") (omits_both 10 prefix owner f (plain_omits owner o)) refl)
      (plain_omits name n)

  users : (r : Root) → Contains (map user_root (finite.entries w.user_roots)) r → Unbroken r
  users r c =
      let x = from_mapped user_root (finite.entries w.user_roots) r c in
      let at = listed_entry pair_total w.user_roots x.0 x.1 in
      subst Unbroken x.2 (
        owned_lacks (codes "gcroots/per-user/") x.0.0.0 x.0.0.1 refl (sound.user_root_owner x.0.0 (ap is_some at))
            (sound.user_root_name x.0.0 (ap is_some at)),
        target_lacks x.0.1 (sound.user_root_target x.0.0 x.0.1 at),
      )

  numbered : (prefix : List ℕ) (n : ℕ) → IsTrue (omits 10 prefix)
      → IsTrue (omits 10 (prefix ++ codes "-" ++ decimal n ++ codes "-link"))
  numbered prefix n f =
      omits_both 10 (prefix ++ codes "-" ++ decimal n) (codes "-link")
      (omits_both 10 (prefix ++ codes "-") (decimal n) (omits_both 10 prefix (codes "-") f refl)
      (omits-decimal 10 n (omega arith))) refl

  generations : (r : Root) → Contains (flat_map generation_roots (finite.entries w.profiles)) r → Unbroken r
  generations r c =
      let x = from_joined generation_roots (finite.entries w.profiles) r c in
      let y = from_mapped (generation_root x.0.0) (finite.entries x.0.1.generations) r x.2 in
      let profile = sound.profiles x.0.0 x.0.1 (listed_entry pair_total w.profiles x.0 x.1) in
      let at = listed_entry nat_cmp_total x.0.1.generations y.0 y.1 in
      subst Unbroken y.2 (
        numbered (codes "profiles/per-user/" ++ x.0.0.0 ++ codes "/" ++ x.0.0.1) y.0.0
            (owned_lacks (codes "profiles/per-user/") x.0.0.0 x.0.0.1 refl profile.owner profile.name),
        target_lacks y.0.1 (profile.targets y.0.0 y.0.1 at),
      )

  runtimes : (r : Root) → Contains (runtime_roots w) r → Unbroken r
  runtimes r c =
      let x = from_mapped runtime_root (finite.keys w.runtime) r c in
      let at = listed_key pair_total w.runtime x.0 x.1 in
      subst Unbroken x.2 (
        label_omits x.0.0 (sound.runtime_label x.0 at),
        target_lacks x.0.1 (sound.runtime_target x.0 at),
      )

  temporaries : (r : Root) → Contains (temporary_roots w) r → Unbroken r
  temporaries r c =
      let x = from_mapped temporary_root (finite.keys w.temporary) r c in
      let at = listed_key temporary_total w.temporary x.0 x.1 in
      subst Unbroken x.2 (
        omits_both 10 (codes "{temp:" ++ decimal x.0.session) (codes "}")
            (omits_both 10 (codes "{temp:") (decimal x.0.session) refl (omits-decimal 10 x.0.session (omega arith)))
            refl,
        target_lacks x.0.path (sound.temporary_target x.0 at),
      )

  until_runtime : (r : Root) → Contains (explicit_roots w ++ runtime_roots w) r → Unbroken r
  until_runtime r c = elim (Contains-append_cases (explicit_roots w) (runtime_roots w) r c) as (λ _. Unbroken r) [
    | inl remaining ↦ elim (Contains-append_cases
        (map permanent_root (finite.entries w.permanent) ++ map user_root (finite.entries w.user_roots))
        (flat_map generation_roots (finite.entries w.profiles)) r remaining) as (λ _. Unbroken r) [
          | inl named ↦ elim (Contains-append_cases (map permanent_root (finite.entries w.permanent))
              (map user_root (finite.entries w.user_roots)) r named) as (λ _. Unbroken r) [
                | inl here ↦ permanents r here
                | inr here ↦ users r here
              ]
          | inr here ↦ generations r here
        ]
    | inr here ↦ runtimes r here
  ]

  pub unbroken : (r : Root) → Contains (roots_of w) r → Unbroken r
  unbroken r c =
      elim (Contains-append_cases (explicit_roots w ++ runtime_roots w) (temporary_roots w) r
      (member_ordered (explicit_roots w ++ runtime_roots w ++ temporary_roots w) r c)) as (λ _. Unbroken r) [
        | inl early ↦ until_runtime r early
        | inr here ↦ temporaries r here
      ]

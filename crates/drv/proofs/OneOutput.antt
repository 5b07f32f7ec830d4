-- An output that is read is one that is written, and what is written is read.
use Rattle.std.proofs.Common.{◌≡◌, ℕ, true, cond, List, [], ◌∷◌, ◌++◌, length, Option, Some, None, refl, sym, ap, subst}
use Rattle.std.proofs.Common.{◌∙◌, append_assoc, length-append, arith}
use Rattle.std.specs.Option.{option_map}
use Rattle.std.proofs.lemmas.List.{append-nil}
use Rattle.std.proofs.lemmas.Option.{some_pair_parts, same_Some}
use Rattle.paths.specs.Names.{is_store_name}
use Rattle.drv.specs.Written.{Written, string, value}
use Rattle.drv.specs.Derivation.{Output, commas, tuple, output, IsPathText, IsOutput}
use Rattle.drv.specs.Reading.{◌>>=◌, after, string_at, string_end, ◌>=>◌, further, name_in, name_at, base_in, path_in}
use Rattle.drv.specs.Reading.{path_at, hash_end, output_at}
use Rattle.drv.proofs.Steps.{bind_some, after_is, Reads, Skips, Skips-then, Skips-byte, Skips-further}
use Rattle.drv.proofs.Lists.{Opens}
use Rattle.drv.proofs.Strings.{strings, string_skips}
use Rattle.drv.proofs.Texts.{name_takes, base_takes, base_again}

-- ---- names

abbrev IsName : List Written → List ℕ → Type 0
IsName ws name = (value ws ≡ name) × (is_store_name name ≡ true)

names_read : Reads name_at string IsName
unfolding name_at
names_read = record {
  again = λ ws name rest m.
      ap (λ (o : Option (List ℕ × List ℕ)). o >>= λ x. name_in x.0 >>= λ n. Some (n, x.1))
      (strings.again ws name rest m.0)
      ∙ ap (λ b. cond b (Some name) None >>= λ n. Some (n, rest)) m.1;
  takes = λ t name rest e.
      let x = bind_some (string_at t) (λ x. name_in x.0 >>= λ n. Some (n, x.1)) (name, rest) e in
      let n = bind_some (name_in x.0.0) (λ n. Some (n, x.0.1)) (name, rest) x.2 in
      let found = name_takes x.0.0 n.0 n.1 in
      let parts : (n.0 ≡ name) × (x.0.1 ≡ rest) = some_pair_parts n.0 name x.0.1 rest n.2 in
      let ws = strings.takes t x.0.0 x.0.1 x.1 in (
        ws.0,
        (ws.1 ∙ found.1 ∙ parts.0, ap is_store_name (sym parts.0) ∙ found.0),
        ws.2 ∙ ap (λ (r : List ℕ). string ws.0 ++ r) parts.1,
      );
}

-- ---- paths

some_base : (o : Option (List ℕ)) (path : Option (List ℕ)) → option_map (λ (b : List ℕ). Some b) o ≡ Some path
    → (base : List ℕ) × (o ≡ Some base) × (Some base ≡ path)
some_base (Some base) path e = (base, refl, same_Some (Some base) path e)
some_base None path e = absurd cc

path_takes : (dir bytes : List ℕ) (path : Option (List ℕ)) → path_in dir bytes ≡ Some path → IsPathText dir bytes path
path_takes dir [] path e = subst (λ p. IsPathText dir [] p) (same_Some None path e) refl
path_takes dir (b ∷ bytes) path e =
    let found = some_base (base_in dir (b ∷ bytes)) path e in
    subst (λ p. IsPathText dir (b ∷ bytes) p) found.2 (base_takes dir (b ∷ bytes) found.0 found.1)

path_again : (dir bytes : List ℕ) (path : Option (List ℕ)) → IsPathText dir bytes path → path_in dir bytes ≡ Some path
path_again dir bytes None m = ap (path_in dir) m
path_again dir [] (Some base) m =
    let long = ap length m.1 in
    let one = length-append (dir ++ 47 ∷ []) base in
    let two = length-append dir (47 ∷ []) in
    absurd (omega arith)
path_again dir (b ∷ bytes) (Some base) m =
    ap (λ (t : List ℕ). option_map (λ (x : List ℕ). Some x) (base_in dir t)) m.1
    ∙ ap (λ (o : Option (List ℕ)). option_map (λ (x : List ℕ). Some x) o) (base_again dir base m.0)

paths_read : (dir : List ℕ) → Reads (path_at dir) string (λ ws path. IsPathText dir (value ws) path)
unfolding path_at
paths_read dir = record {
  again = λ ws path rest m.
      ap (λ (o : Option (List ℕ × List ℕ)). o >>= λ x. path_in dir x.0 >>= λ p. Some (p, x.1))
      (strings.again ws (value ws) rest refl)
      ∙ ap (λ (o : Option (Option (List ℕ))). o >>= λ p. Some (p, rest)) (path_again dir (value ws) path m);
  takes = λ t path rest e.
      let x = bind_some (string_at t) (λ x. path_in dir x.0 >>= λ p. Some (p, x.1)) (path, rest) e in
      let p = bind_some (path_in dir x.0.0) (λ p. Some (p, x.0.1)) (path, rest) x.2 in
      let parts : (p.0 ≡ path) × (x.0.1 ≡ rest) = some_pair_parts p.0 path x.0.1 rest p.2 in
      let ws = strings.takes t x.0.0 x.0.1 x.1 in
      let is : IsPathText dir x.0.0 path =
      subst (λ q. IsPathText dir x.0.0 q) parts.0 (path_takes dir x.0.0 p.0 p.1) in (
        ws.0,
        subst (λ bytes. IsPathText dir bytes path) (sym ws.1) is,
        ws.2 ∙ ap (λ (r : List ℕ). string ws.0 ++ r) parts.1,
      );
}

-- ---- outputs

abbrev HashParts : Type 0
HashParts = (List Written × List Written) × Unit {0}

abbrev hash_spelled : HashParts → List ℕ
hash_spelled z = ((44 ∷ string z.0.0) ++ 44 ∷ string z.0.1) ++ 41 ∷ []

hash_skips : Skips hash_end hash_spelled
unfolding hash_end
hash_skips =
    Skips-then (further string_end >=> further string_end) (after 41) _ _
    (Skips-then (further string_end) (further string_end) _ _ (Skips-further string_end string string_skips)
    (Skips-further string_end string string_skips))
    (Skips-byte 41)

regroup : (n p m h rest : List ℕ)
    → (n ++ 44 ∷ (p ++ 44 ∷ (m ++ 44 ∷ (h ++ []))) ++ 41 ∷ []) ++ rest
    ≡ n ++ 44 ∷ (p ++ (((44 ∷ m) ++ 44 ∷ h ++ 41 ∷ []) ++ rest))
regroup n p m h rest = simp (append_assoc, append-nil) refl

output_is : (o : Output) (rest : List ℕ)
    → output o ++ rest ≡ 40 ∷ (string o.name ++ 44 ∷ (string o.path ++ (hash_spelled ((o.method, o.hash), tt) ++ rest)))
unfolding output tuple commas
output_is o rest =
    ap (λ (t : List ℕ). 40 ∷ t) (regroup (string o.name) (string o.path) (string o.method) (string o.hash) rest)

abbrev Found : Type 0
Found = Option ((List ℕ × Option (List ℕ)) × List ℕ)

pub outputs_read : (dir : List ℕ) → Reads (output_at dir) output (IsOutput dir)
unfolding output_at
outputs_read dir = record {
  again = λ o x rest m.
      let tail = hash_spelled ((o.method, o.hash), tt) ++ rest in
      let behind = string o.path ++ tail in
      let with_path : List ℕ → Option (List ℕ) → List ℕ → Found =
      λ name path t. hash_end t >>= λ r. Some ((name, path), r) in
      let with_name : List ℕ → List ℕ → Found =
      λ name t. after 44 t >>= λ u. path_at dir u >>= λ path. with_path name path.0 path.1 in
      let whole : List ℕ → Found = λ t. after 40 t >>= λ u. name_at u >>= λ name. with_name name.0 name.1 in
      ap whole (output_is o rest)
      ∙ ap (λ (r : Option (List ℕ × List ℕ)). r >>= λ name. with_name name.0 name.1)
      (names_read.again o.name x.0 (44 ∷ behind) (m.name, m.is_name))
      ∙ ap (λ (r : Option (Option (List ℕ) × List ℕ)). r >>= λ path. with_path x.0 path.0 path.1)
      ((paths_read dir).again o.path x.1 tail m.path)
      ∙ ap (λ (r : Option (List ℕ)). r >>= λ s. Some ((x.0, x.1), s)) (hash_skips.again ((o.method, o.hash), tt) rest);
  takes = λ t x rest e.
      let with_path : List ℕ → Option (List ℕ) → List ℕ → Found =
      λ name path t. hash_end t >>= λ r. Some ((name, path), r) in
      let with_name : List ℕ → List ℕ → Found =
      λ name t. after 44 t >>= λ u. path_at dir u >>= λ path. with_path name path.0 path.1 in
      let a = bind_some (after 40 t) (λ u. name_at u >>= λ name. with_name name.0 name.1) (x, rest) e in
      let b = bind_some (name_at a.0) (λ name. with_name name.0 name.1) (x, rest) a.2 in
      let c = bind_some (after 44 b.0.1) (λ u. path_at dir u >>= λ path. with_path b.0.0 path.0 path.1) (x, rest) b.2 in
      let d = bind_some (path_at dir c.0) (λ path. with_path b.0.0 path.0 path.1) (x, rest) c.2 in
      let g = bind_some (hash_end d.0.1) (λ r. Some ((b.0.0, d.0.0), r)) (x, rest) d.2 in
      let parts : ((b.0.0, d.0.0) ≡ x) × (g.0 ≡ rest) = some_pair_parts (b.0.0, d.0.0) x g.0 rest g.2 in
      let name = names_read.takes a.0 b.0.0 b.0.1 b.1 in
      let path = (paths_read dir).takes c.0 d.0.0 d.0.1 d.1 in
      let hash = hash_skips.takes d.0.1 g.0 g.1 in
      let o : Output = record { name = name.0; path = path.0; method = hash.0.0.0; hash = hash.0.0.1 } in
      let is : IsOutput dir o (b.0.0, d.0.0) = record { name = name.1.0; is_name = name.1.1; path = path.1 } in
      let tail : d.0.1 ≡ hash_spelled hash.0 ++ rest = hash.1 ∙ ap (λ (r : List ℕ). hash_spelled hash.0 ++ r) parts.1 in
      let behind : b.0.1 ≡ 44 ∷ (string path.0 ++ (hash_spelled hash.0 ++ rest)) =
      after_is 44 b.0.1 c.0 c.1 ∙ ap (λ (r : List ℕ). 44 ∷ r)
      (path.2 ∙ ap (λ (r : List ℕ). string path.0 ++ r) tail) in
      let front : t ≡ 40 ∷ (string name.0 ++ 44 ∷ (string path.0 ++ (hash_spelled hash.0 ++ rest))) =
      after_is 40 t a.0 a.1 ∙ ap (λ (r : List ℕ). 40 ∷ r)
      (name.2 ∙ ap (λ (r : List ℕ). string name.0 ++ r) behind) in
      (o, subst (λ y. IsOutput dir o y) parts.0 is, front ∙ sym (output_is o rest));
}

pub outputs_open : Opens output
unfolding output tuple
outputs_open = λ o rest. refl

-- The prefix in a fault is the longest that is good.
use Rattle.std.proofs.Common.{◌≡◌, ℕ, ◌+◌, ◌-◌, ◌^◌, ◌<◌, ◌≤◌, List, [], ◌∷◌, ◌++◌, length, Some, Ok, Err, sym, ap, ◌∙◌}
use Rattle.std.proofs.Common.{subst, append_assoc, arith, inl, inr}
use Rattle.std.specs.Prelude.{MatchResult}
use Rattle.std.specs.List.{AllByRecursion}
use Rattle.std.proofs.lemmas.List.{length-append}
use Rattle.nar.specs.declared.error.NarError.{NarError}
use Rattle.nar.specs.String.{string, size_of, string_at}
use Rattle.nar.specs.Archive.{Part, spelled, IsShallow, spelling, limit}
use Rattle.nar.specs.Fault.{Refuses, Fails, IsGoodPrefix, IsFault}
use Rattle.nar.specs.Tree.{IsBytes}
use Rattle.nar.specs.Steps.{Symbol, consumed, run, start, check, AreBytes, FaultAt}
use Rattle.nar.proofs.Bytes.{IsBytes-rest}
use Rattle.nar.proofs.Grammar.{none_is_some, some_is, and_then_some}
use Rattle.nar.proofs.Strings.{length-string, string_takes, string_again}
use Rattle.nar.proofs.Machine.{check_consumed, fails_check, run_from_whole, run_from_begins, bytes_from_begins}
use Rattle.nar.proofs.Faults.{string_fits, ok_pair, ok_is, FaultAfter, found_after}

-- no string passes here
abbrev Stuck : List Symbol → ℕ → List ℕ → Type 0
Stuck [] room bytes = Unit {0}
Stuck (x ∷ κ) room bytes = (s rest : List ℕ) (p : Part) → string_at room bytes ≡ Ok (s, rest) → check x s ≡ Ok p → ⊥

fails_stuck : (ps : List Part) (σ : List Symbol) (room : ℕ) (rest : List ℕ) (e : NarError) → AreBytes ps → IsBytes rest
    → run start ps ≡ Some σ → length (spelling ps) + room ≡ limit → Fails ps rest e → Stuck σ room rest
fails_stuck ps [] room rest e b k at size h = tt
fails_stuck ps (x ∷ κ) room rest e b k at size (inl w) =
    (let q : Some (x ∷ κ) ≡ Some [] = sym at ∙ run_from_whole ps w.0 in absurd cc)
fails_stuck ps (x ∷ κ) room rest e b k at size (inr w) =
    let left : limit - length (spelling ps) ≡ room = omega arith in
    let m : MatchResult (string_at room rest) (λ next. Refuses ps next.0 e) (λ early. e ≡ early) =
    subst (λ (k : ℕ). MatchResult (string_at k rest) (λ next. Refuses ps next.0 e) (λ early. e ≡ early)) left w.1 in
    λ s after p is ok.
    let refused : Refuses ps s e = rw is at m in
    let q : Ok p ≡ Err e =
    sym ok ∙ fails_check ps x κ at b s e (string_takes room rest s after k is).text_bytes refused in
    absurd cc

no_longer : (ps qs : List Part) (σ τ υ : List Symbol) (room : ℕ) (r q : List ℕ) → run σ ps ≡ Some τ → run σ qs ≡ Some υ
    → AllByRecursion IsShallow ps → AllByRecursion IsShallow qs
    → length (spelling ps) ≤ room → length (spelling qs) ≤ room → room < 2 ^ 64
    → Stuck υ (room - length (spelling qs)) q → spelling ps ++ r ≡ spelling qs ++ q
    → length (spelling ps) ≤ length (spelling qs)
no_longer [] qs σ τ υ room r q at bt hp hq fp fq lt stuck e = omega arith
no_longer (p ∷ ps) qs [] τ υ room r q at bt hp hq fp fq lt stuck e = none_is_some τ at
no_longer (p ∷ ps) [] (x ∷ κ) τ υ room r q at bt hp hq fp fq lt stuck e =
    let a = and_then_some (consumed x p) (λ σ. run (σ ++ κ) ps) τ at in
    let s : List ℕ = spelled p in
    let both = length-append (string s) (spelling ps) in
    let fits : length (string s ++ spelling ps) ≤ room = fp in
    let sized = string_fits s room (omega arith) lt in
    let same : x ∷ κ ≡ υ = some_is (x ∷ κ) υ bt in
    let all : room - 0 ≡ room = omega arith in
    let here : Stuck (x ∷ κ) room q =
    subst (λ (k : ℕ). Stuck (x ∷ κ) k q) all (subst (λ (v : List Symbol). Stuck v (room - 0) q) (sym same) stuck) in
    let grouped : (string s ++ spelling ps) ++ r ≡ string s ++ (spelling ps ++ r) =
    append_assoc (string s) (spelling ps) r in
    let read : string_at room q ≡ Ok (s, spelling ps ++ r) =
    ap (string_at room) (sym e ∙ grouped) ∙ string_again room s (spelling ps ++ r) sized.0 sized.1 in
    absurd (here s (spelling ps ++ r) p read (check_consumed x p a.0 a.1 hp.0))
no_longer (p ∷ ps) (u ∷ qs) (x ∷ κ) τ υ room r q at bt hp hq fp fq lt stuck e =
    let a = and_then_some (consumed x p) (λ σ. run (σ ++ κ) ps) τ at in
    let b = and_then_some (consumed x u) (λ σ. run (σ ++ κ) qs) υ bt in
    let s : List ℕ = spelled p in
    let t : List ℕ = spelled u in
    let one : length (string s ++ spelling ps) ≡ size_of (length s) + length (spelling ps) =
    length-append (string s) (spelling ps) ∙ ap (λ (k : ℕ). k + length (spelling ps)) (length-string s) in
    let two : length (string t ++ spelling qs) ≡ size_of (length t) + length (spelling qs) =
    length-append (string t) (spelling qs) ∙ ap (λ (k : ℕ). k + length (spelling qs)) (length-string t) in
    let fits1 : length (string s ++ spelling ps) ≤ room = fp in
    let fits2 : length (string t ++ spelling qs) ≤ room = fq in
    let fs = string_fits s room (omega (arith, length-string s)) lt in
    let ft = string_fits t room (omega (arith, length-string t)) lt in
    let is : string_at room ((string s ++ spelling ps) ++ r) ≡ Ok (s, spelling ps ++ r) =
    ap (string_at room) (append_assoc (string s) (spelling ps) r)
    ∙ string_again room s (spelling ps ++ r) fs.0 fs.1 in
    let it : string_at room ((string t ++ spelling qs) ++ q) ≡ Ok (t, spelling qs ++ q) =
    ap (string_at room) (append_assoc (string t) (spelling qs) q)
    ∙ string_again room t (spelling qs ++ q) ft.0 ft.1 in
    let pair =
    ok_pair (spelling ps ++ r) (spelling qs ++ q) (string_at room ((string s ++ spelling ps) ++ r)) s t is
    (ap (string_at room) e ∙ it) in
    let same : p ≡ u =
    ok_is (check x s) p u (check_consumed x p a.0 a.1 hp.0)
    (ap (check x) pair.0 ∙ check_consumed x u b.0 b.1 hq.0) in
    let left : a.0 ≡ b.0 = some_is a.0 b.0 (sym a.1 ∙ ap (consumed x) same ∙ b.1) in
    let room_left : room - length (string t ++ spelling qs) ≡ (room - size_of (length s)) - length (spelling qs) =
    omega (arith, ap length pair.0) in
    let stuck2 = subst (λ (k : ℕ). Stuck υ k q) room_left stuck in
    let later =
    no_longer ps qs (a.0 ++ κ) τ υ (room - size_of (length s)) r q a.2
    (subst (λ (v : List Symbol). run (v ++ κ) qs ≡ Some υ) (sym left) b.2) hp.1 hq.1 (omega arith)
    (omega (arith, ap length pair.0)) (omega arith) stuck2 pair.1 in
    let all : length (string s ++ spelling ps) ≤ length (string t ++ spelling qs) = omega (arith, ap length pair.0) in
    all

-- a good prefix of an input is no longer than one after which something fails
longest : (input : List ℕ) (e : NarError) → IsBytes input → (f : FaultAfter input e) (ps : List Part) (rest : List ℕ)
    → IsGoodPrefix input ps rest → length (spelling ps) ≤ length (spelling f.parts)
longest input e h f ps rest g =
    let k = f.good in
    let a = run_from_begins ps g.begins in
    let b = run_from_begins f.parts k.begins in
    let within : length (spelling f.parts) ≤ limit = k.fits in
    let bytes : IsBytes f.rest = IsBytes-rest (spelling f.parts) f.rest (subst IsBytes k.prefix h) in
    no_longer ps f.parts start a.0 b.0 limit rest f.rest a.1 b.1 g.shallow k.shallow g.fits k.fits (omega arith)
    (fails_stuck f.parts b.0 (limit - length (spelling f.parts)) f.rest e (bytes_from_begins f.parts k.begins) bytes b.1
    (omega arith) f.fails) (sym g.prefix ∙ k.prefix)

-- what fails after a good prefix is the input's fault
pub as_fault : (input : List ℕ) (e : NarError) → IsBytes input → FaultAfter input e → IsFault input e
as_fault input e h f =
    record { parts = f.parts; rest = f.rest; good = f.good; longest = longest input e h f; fails = f.fails }

-- what the machine finds in the whole input is its fault
pub found : (input : List ℕ) (e : NarError) → IsBytes input → FaultAt start limit input e → IsFault input e
found input e h f = as_fault input e h (found_after input e h f)

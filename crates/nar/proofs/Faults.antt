-- The fault that the machine finds in bytes is the one of the definition, and there is one alone.
use Rattle.std.proofs.Common.{◌≡◌, ℕ, ◌+◌, ◌-◌, ◌^◌, ◌≤◌, ◌<◌, List, [], ◌∷◌, ◌++◌, length, Some, Result, Ok, Err, refl}
use Rattle.std.proofs.Common.{sym, ap, ◌∙◌, subst, append_assoc, append-nil, arith, inl, inr}
use Rattle.std.specs.Prelude.{option_and_then, MatchResult}
use Rattle.std.specs.List.{AllByRecursion}
use Rattle.std.proofs.lemmas.List.{length-append}
use Rattle.std.proofs.lemmas.Grind.{flat_map-append}
use Rattle.nar.specs.declared.error.NarError.{NarError}
use Rattle.nar.specs.String.{string, size_of, string_at}
use Rattle.nar.specs.Tree.{Tree, IsBytes}
use Rattle.nar.specs.Archive.{Part, spelled, archive, IsShallow, IsArchive, spelling, limit}
use Rattle.nar.specs.Fault.{Refuses, Fails, IsGoodPrefix, IsFault}
use Rattle.nar.specs.Steps.{Symbol, consumed, run, start, check, AreBytes, FaultAt, trails, stops, refuses, continues}
use Rattle.nar.proofs.Strings.{length-string, string_takes, string_again}
use Rattle.nar.proofs.Bytes.{IsBytes-rest}
use Rattle.nar.proofs.Grammar.{none_is_some, some_is, and_then_some, walk}
use Rattle.nar.proofs.Machine.{whole_from_run, begins_from_run, run_from_whole, run_from_begins, bytes_from_begins}
use Rattle.nar.proofs.Machine.{bytes_more, next_run, checked, check_consumed, refused, fails_check}

-- ---- the machine's fault is one of the definition

pub shallow_more : (ps : List Part) (p : Part) → AllByRecursion IsShallow ps → IsShallow p
    → AllByRecursion IsShallow (ps ++ p ∷ [])
shallow_more [] p h k = (k, tt)
shallow_more (q ∷ ps) p h k = (h.0, shallow_more ps p h.1 k)

pub spelling-push : (ps : List Part) (p : Part) → spelling (ps ++ p ∷ []) ≡ spelling ps ++ string (spelled p)
spelling-push ps p =
    flat_map-append (λ q. string (spelled q)) ps (p ∷ [])
    ∙ ap (λ (v : List ℕ). spelling ps ++ v) (append-nil (string (spelled p)))

pub record Prefix (ps : List Part) (room : ℕ) : Type 0 where
  pub are_bytes : AreBytes ps
  pub shallow : AllByRecursion IsShallow ps
  pub size : length (spelling ps) + room ≡ limit

fails_by : (ps : List Part) (x : Symbol) (κ : List Symbol) (room : ℕ) (bytes : List ℕ) (e : NarError)
    → run start ps ≡ Some (x ∷ κ) → length (spelling ps) + room ≡ limit
    → MatchResult (string_at room bytes) (λ next. Refuses ps next.0 e) (λ early. e ≡ early) → Fails ps bytes e
fails_by ps x κ room bytes e at size m =
    let left : limit - length (spelling ps) ≡ room = omega arith in
    inr (
      λ w. (let q : Some (x ∷ κ) ≡ Some [] = sym at ∙ run_from_whole ps w in absurd cc),
      subst (λ (k : ℕ). MatchResult (string_at k bytes) (λ next. Refuses ps next.0 e) (λ early. e ≡ early))
          (sym left) m,
    )

-- what fails after a good prefix
pub record FaultAfter (input : List ℕ) (fault : NarError) : Type 0 where
  pub parts : List Part
  pub rest : List ℕ
  pub good : IsGoodPrefix input parts rest
  pub fails : Fails parts rest fault

prefix_of : (ps : List Part) (σ : List Symbol) (room : ℕ) (bytes : List ℕ) → run start ps ≡ Some σ → Prefix ps room
    → IsGoodPrefix (spelling ps ++ bytes) ps bytes
prefix_of ps σ room bytes at front = record {
  prefix = refl;
  begins = begins_from_run ps σ front.are_bytes at;
  shallow = front.shallow;
  fits = omega (arith, front.size);
}

pub found_by : {σ : List Symbol} {room : ℕ} {bytes : List ℕ} {e : NarError} → FaultAt σ room bytes e → (ps : List Part)
    → run start ps ≡ Some σ → Prefix ps room → IsBytes bytes → FaultAfter (spelling ps ++ bytes) e
found_by (trails {room = room} {bytes = bytes} some) ps at front h = record {
  parts = ps;
  rest = bytes;
  good = prefix_of ps [] room bytes at front;
  fails = inl (whole_from_run ps front.are_bytes at, some, refl);
}
found_by (stops {x = x} {κ = κ} {room = room} {bytes = bytes} {e = e} is) ps at front h = record {
  parts = ps;
  rest = bytes;
  good = prefix_of ps (x ∷ κ) room bytes at front;
  fails = fails_by ps x κ room bytes e at front.size (rw is refl);
}
found_by (refuses {x = x} {κ = κ} {room = room} {bytes = bytes} {s = s} {rest = rest} {e = e} is bad) ps at front h =
    record {
      parts = ps;
      rest = bytes;
      good = prefix_of ps (x ∷ κ) room bytes at front;
      fails = fails_by ps x κ room bytes e at front.size (rw is (refused ps front.are_bytes x κ s e at bad));
    }
found_by (continues {x = x} {σ = σ} {κ = κ} {p = p} {room = room} {bytes = bytes} {s = s} {rest = rest} {e = e} is ok
    takes later) ps at front h =
    let c = checked x s p ok in
    let t = string_takes room bytes s rest h is in
    let next : run start (ps ++ p ∷ []) ≡ Some (σ ++ κ) =
    next_run ps x κ at p ∙ ap (option_and_then (λ (v : List Symbol). Some (v ++ κ))) takes in
    let parts : bytes ≡ string s ++ rest = t.parts in
    let fits : size_of (length s) ≤ room = t.fits in
    let pushed : spelling (ps ++ p ∷ []) ≡ spelling ps ++ string s =
    spelling-push ps p ∙ ap (λ (v : List ℕ). spelling ps ++ string v) c.same in
    let size : length (spelling (ps ++ p ∷ [])) + (room - size_of (length s)) ≡ limit =
    omega (arith, ap length pushed, length-append (spelling ps) (string s), length-string s, front.size) in
    let whole : spelling (ps ++ p ∷ []) ++ rest ≡ spelling ps ++ bytes =
    ap (λ (v : List ℕ). v ++ rest) pushed ∙ append_assoc (spelling ps) (string s) rest
    ∙ ap (λ (v : List ℕ). spelling ps ++ v) (sym parts) in
    subst (λ (v : List ℕ). FaultAfter v e) whole
    (found_by later (ps ++ p ∷ []) next
    (record {
      are_bytes = bytes_more ps p front.are_bytes (subst IsBytes (sym c.same) t.text_bytes);
      shallow = shallow_more ps p front.shallow c.shallow;
      size = size;
    }) t.rest_bytes)

-- what the machine finds in the whole input
pub found_after : (input : List ℕ) (e : NarError) → IsBytes input → FaultAt start limit input e → FaultAfter input e
found_after input e h f = found_by f [] refl (record { are_bytes = tt; shallow = tt; size = refl }) h

-- ---- parts before a fault

abbrev pub small : ℕ
small = 2 ^ 64

pub string_fits : (s : List ℕ) (room : ℕ) → length (string s) ≤ room → room < 2 ^ 64
    → (length s < 2 ^ 64) × (size_of (length s) ≤ room)
string_fits s room fits lt = let len = length-string s in (omega arith, omega arith)

-- a fault after parts that the machine takes is the fault of the whole
pub before : (ps : List Part) (σ τ : List Symbol) (room : ℕ) (rest : List ℕ) (e : NarError) → run σ ps ≡ Some τ
    → AllByRecursion IsShallow ps → length (spelling ps) ≤ room → room < 2 ^ 64
    → FaultAt τ (room - length (spelling ps)) rest e → FaultAt σ room (spelling ps ++ rest) e
before [] σ τ room rest e at shallow fits lt f =
    let same : room - 0 ≡ room = omega arith in
    subst (λ (v : List Symbol). FaultAt v room rest e) (sym (some_is σ τ at))
    (subst (λ (k : ℕ). FaultAt τ k rest e) same f)
before (p ∷ ps) [] τ room rest e at shallow fits lt f = none_is_some τ at
before (p ∷ ps) (x ∷ κ) τ room rest e at shallow fits lt f =
    let a = and_then_some (consumed x p) (λ σ. run (σ ++ κ) ps) τ at in
    let s : List ℕ = spelled p in
    let both : length (string s ++ spelling ps) ≡ size_of (length s) + length (spelling ps) =
    length-append (string s) (spelling ps) ∙ ap (λ (k : ℕ). k + length (spelling ps)) (length-string s) in
    let fits2 : length (string s ++ spelling ps) ≤ room = fits in
    let sized = string_fits s room (omega (arith, length-string s)) lt in
    let left : room - length (string s ++ spelling ps) ≡ (room - size_of (length s)) - length (spelling ps) =
    omega arith in
    let f2 = subst (λ (k : ℕ). FaultAt τ k rest e) left f in
    let later =
    before ps (a.0 ++ κ) τ (room - size_of (length s)) rest e a.2 shallow.1 (omega arith) (omega arith) f2 in
    let one : FaultAt (x ∷ κ) room (string s ++ (spelling ps ++ rest)) e =
    continues (string_again room s (spelling ps ++ rest) sized.0 sized.1) (check_consumed x p a.0 a.1 shallow.0) a.1
    later in
    subst (λ (v : List ℕ). FaultAt (x ∷ κ) room v e) (sym (append_assoc (string s) (spelling ps) rest)) one

-- ---- the other way round: the definition's fault is what the machine finds

-- what fails after the parts, fails the machine there
fails_at : (ps : List Part) (τ : List Symbol) (room : ℕ) (rest : List ℕ) (e : NarError) → AreBytes ps → IsBytes rest
    → run start ps ≡ Some τ → length (spelling ps) + room ≡ limit → Fails ps rest e → FaultAt τ room rest e
fails_at ps [] room rest e b h at size (inl w) = subst (λ (g : NarError). FaultAt [] room rest g) (sym w.2) (trails w.1)
fails_at ps [] room rest e b h at size (inr w) = absurd (w.0 (whole_from_run ps b at))
fails_at ps (x ∷ κ) room rest e b h at size (inl w) =
    (let q : Some (x ∷ κ) ≡ Some [] = sym at ∙ run_from_whole ps w.0 in absurd cc)
fails_at ps (x ∷ κ) room rest e b h at size (inr w) =
    let left : limit - length (spelling ps) ≡ room = omega arith in
    let m : MatchResult (string_at room rest) (λ next. Refuses ps next.0 e) (λ early. e ≡ early) =
    subst (λ (k : ℕ). MatchResult (string_at k rest) (λ next. Refuses ps next.0 e) (λ early. e ≡ early)) left w.1 in
    by_string (string_at room rest) refl m
  where
    by_string : (r : Result (List ℕ × List ℕ) NarError) → string_at room rest ≡ r
        → MatchResult r (λ next. Refuses ps next.0 e) (λ early. e ≡ early) → FaultAt (x ∷ κ) room rest e
    by_string (Ok next) is m =
        refuses is (fails_check ps x κ at b next.0 e (string_takes room rest next.0 next.1 h is).text_bytes m)
    by_string (Err f) is m = stops (is ∙ ap Err (sym m))

pub after_at : (input : List ℕ) (e : NarError) → IsBytes input → FaultAfter input e → FaultAt start limit input e
after_at input e h f =
    let g = f.good in
    let a = run_from_begins f.parts g.begins in
    let fits : length (spelling f.parts) ≤ limit = g.fits in
    let rest : IsBytes f.rest = IsBytes-rest (spelling f.parts) f.rest (subst IsBytes g.prefix h) in
    let present =
    fails_at f.parts a.0 (limit - length (spelling f.parts)) f.rest e (bytes_from_begins f.parts g.begins) rest a.1
    (omega arith) f.fails in
    subst (λ (v : List ℕ). FaultAt start limit v e) (sym g.prefix)
    (before f.parts start a.0 limit f.rest e a.1 g.shallow fits (omega arith) present)

pub fault_at : (input : List ℕ) (e : NarError) → IsBytes input → IsFault input e → FaultAt start limit input e
fault_at input e h f = after_at input e h (record { parts = f.parts; rest = f.rest; good = f.good; fails = f.fails })

-- ---- the machine finds one fault

ok_err : {A B E : Type 0} (r : Result A E) (x : A) (e : E) → r ≡ Ok x → r ≡ Err e → B
ok_err r x e is isnt = (let q : Ok x ≡ Err e = sym is ∙ isnt in absurd cc)

err_is : {A E : Type 0} (r : Result A E) (e f : E) → r ≡ Err e → r ≡ Err f → e ≡ f
err_is r e f a b = (let q : Err e ≡ Err f = sym a ∙ b in cc)

pub ok_is : {A E : Type 0} (r : Result A E) (x y : A) → r ≡ Ok x → r ≡ Ok y → x ≡ y
ok_is r x y a b = (let q : Ok x ≡ Ok y = sym a ∙ b in cc)

pub ok_pair : (a b : List ℕ) (r : Result (List ℕ × List ℕ) NarError) (s t : List ℕ) → r ≡ Ok (s, a) → r ≡ Ok (t, b)
    → (s ≡ t) × (a ≡ b)
ok_pair a b r s t e f =
    let q = ok_is r (s, a) (t, b) e f in
    (ap (λ (p : List ℕ × List ℕ). p.0) q, ap (λ (p : List ℕ × List ℕ). p.1) q)

carried : (κ σ σ' : List Symbol) (room : ℕ) (s s' rest rest' : List ℕ) (f : NarError) → σ ≡ σ' → s ≡ s' → rest ≡ rest'
    → FaultAt (σ' ++ κ) (room - size_of (length s')) rest' f → FaultAt (σ ++ κ) (room - size_of (length s)) rest f
carried κ σ σ' room s s' rest rest' f a b c h =
    subst (λ (v : List Symbol). FaultAt (v ++ κ) (room - size_of (length s)) rest f) (sym a)
    (subst (λ (v : List ℕ). FaultAt (σ' ++ κ) (room - size_of (length v)) rest f) (sym b)
    (subst (λ (v : List ℕ). FaultAt (σ' ++ κ) (room - size_of (length s')) v f) (sym c) h))

pub one_fault : {σ : List Symbol} {room : ℕ} {bytes : List ℕ} {e f : NarError} → FaultAt σ room bytes e
    → FaultAt σ room bytes f → e ≡ f
one_fault (trails some) (trails more) = refl
one_fault (stops is) (stops js) = err_is _ _ _ is js
one_fault (stops is) (refuses js bad) = ok_err _ _ _ js is
one_fault (stops is) (continues js ok takes later) = ok_err _ _ _ js is
one_fault (refuses is bad) (stops js) = ok_err _ _ _ is js
one_fault (refuses {x = x} {s = s} {rest = rest} {e = e} is bad) (refuses {s = t} {rest = after} {e = f} js worse) =
    let q = ok_pair rest after _ s t is js in
    err_is (check x s) e f bad (ap (check x) q.0 ∙ worse)
one_fault (refuses {x = x} {s = s} {rest = rest} {e = e} is bad)
    (continues {p = p} {s = t} {rest = after} js ok takes later) =
    let q = ok_pair rest after _ s t is js in
    ok_err (check x s) p e (ap (check x) q.0 ∙ ok) bad
one_fault (continues is ok takes later) (stops js) = ok_err _ _ _ is js
one_fault (continues {x = x} {p = p} {s = s} {rest = rest} is ok takes later)
    (refuses {s = t} {rest = after} {e = e} js bad) =
    let q = ok_pair rest after _ s t is js in
    ok_err (check x s) p e ok (ap (check x) q.0 ∙ bad)
one_fault (continues {x = x} {σ = σ} {κ = κ} {p = p} {room = room} {s = s} {rest = rest} is ok takes later)
    (continues {σ = σ'} {p = p'} {s = t} {rest = after} {e = f} js ok' takes' later') =
    let q = ok_pair rest after _ s t is js in
    let same : p ≡ p' = ok_is (check x s) p p' ok (ap (check x) q.0 ∙ ok') in
    let left : σ ≡ σ' = some_is σ σ' (sym takes ∙ ap (consumed x) same ∙ takes') in
    one_fault later (carried κ σ σ' room s t rest after f left q.0 q.1 later')

-- there is one fault
pub one_cause : (input : List ℕ) (e f : NarError) → IsBytes input → IsFault input e → IsFault input f → e ≡ f
one_cause input e f h a b = one_fault (fault_at input e h a) (fault_at input f h b)

-- ---- an archive has no fault

one_step : {x : Symbol} {κ : List Symbol} {room : ℕ} {bytes : List ℕ} {e : NarError} → FaultAt (x ∷ κ) room bytes e
    → (s rest : List ℕ) (p : Part) (σ : List Symbol)
    → string_at room bytes ≡ Ok (s, rest) → check x s ≡ Ok p → consumed x p ≡ Some σ
    → FaultAt (σ ++ κ) (room - size_of (length s)) rest e
one_step (stops is) s rest p σ js ok takes = ok_err _ _ _ js is
one_step (refuses {x = x} {s = t} {rest = after} {e = e} is bad) s rest p σ js ok takes =
    let q = ok_pair rest after _ s t js is in
    ok_err (check x s) p e ok (ap (check x) q.0 ∙ bad)
one_step (continues {x = x} {σ = σ'} {κ = κ} {p = p'} {room = room} {s = t} {rest = after} {e = f} is ok' takes' later)
    s rest p σ js ok takes =
    let q = ok_pair rest after _ s t js is in
    let same : p ≡ p' = ok_is (check x s) p p' ok (ap (check x) q.0 ∙ ok') in
    let left : σ ≡ σ' = some_is σ σ' (sym takes ∙ ap (consumed x) same ∙ takes') in
    carried κ σ σ' room s t rest after f left q.0 q.1 later

-- a fault of parts that the machine takes, and what follows, is one after them
pub behind : (ps : List Part) (σ τ : List Symbol) (room : ℕ) (rest : List ℕ) (e : NarError) → run σ ps ≡ Some τ
    → AllByRecursion IsShallow ps → length (spelling ps) ≤ room → room < 2 ^ 64
    → FaultAt σ room (spelling ps ++ rest) e → FaultAt τ (room - length (spelling ps)) rest e
behind [] σ τ room rest e at shallow fits lt f =
    let same : room ≡ room - 0 = omega arith in
    subst (λ (v : List Symbol). FaultAt v (room - 0) rest e) (some_is σ τ at)
    (subst (λ (k : ℕ). FaultAt σ k rest e) same f)
behind (p ∷ ps) [] τ room rest e at shallow fits lt f = none_is_some τ at
behind (p ∷ ps) (x ∷ κ) τ room rest e at shallow fits lt f =
    let a = and_then_some (consumed x p) (λ σ. run (σ ++ κ) ps) τ at in
    let s : List ℕ = spelled p in
    let both : length (string s ++ spelling ps) ≡ size_of (length s) + length (spelling ps) =
    length-append (string s) (spelling ps) ∙ ap (λ (k : ℕ). k + length (spelling ps)) (length-string s) in
    let fits2 : length (string s ++ spelling ps) ≤ room = fits in
    let sized = string_fits s room (omega (arith, length-string s)) lt in
    let left : (room - size_of (length s)) - length (spelling ps) ≡ room - length (string s ++ spelling ps) =
    omega arith in
    let f2 : FaultAt (x ∷ κ) room (string s ++ (spelling ps ++ rest)) e =
    subst (λ (v : List ℕ). FaultAt (x ∷ κ) room v e) (append_assoc (string s) (spelling ps) rest) f in
    let next =
    one_step f2 s (spelling ps ++ rest) p a.0 (string_again room s (spelling ps ++ rest) sized.0 sized.1)
    (check_consumed x p a.0 a.1 shallow.0) a.1 in
    subst (λ (k : ℕ). FaultAt τ k rest e) left
    (behind ps (a.0 ++ κ) τ (room - size_of (length s)) rest e a.2 shallow.1 (omega arith) (omega arith) next)

nothing_left : {room : ℕ} {bytes : List ℕ} {e : NarError} → FaultAt [] room bytes e → bytes ≡ [] → ⊥
nothing_left (trails some) none = some none

pub archive_has_none : (t : Tree) (input : List ℕ) (e : NarError) → IsBytes input → IsArchive t input → IsFault input e
    → ⊥
archive_has_none t input e h a f =
    let whole : input ≡ spelling (archive t) ++ [] = a.spells ∙ sym (append-nil (spelling (archive t))) in
    let present = subst (λ (v : List ℕ). FaultAt start limit v e) whole (fault_at input e h f) in
    let fits : length (spelling (archive t)) ≤ limit = subst (λ (v : List ℕ). length v ≤ limit) a.spells a.fits in
    nothing_left (behind (archive t) start [] limit [] e (walk t a.legal) a.shallow fits (omega arith) present) refl

-- Strings whose bytes are counted.
use Rattle.std.proofs.Common.{◌≡◌, ◌≢◌, ℕ, ◌+◌, ◌-◌, ◌<◌, ◌≤◌, min, Bool, true, false, cond, ltb, eqb, ◌&&◌, List, []}
use Rattle.std.proofs.Common.{◌∷◌, ◌++◌, length, take, drop, Option, Some, None, Ok, Err, refl, sym, ap, ◌∙◌, subst}
use Rattle.std.proofs.Common.{arith, inl, inr}
use Rattle.std.specs.Prelude.{IsTrue}
use Rattle.std.specs.List.{list_all}
use Rattle.std.proofs.lemmas.Bool.{cases_lt, le-ltb, lt-ltb}
use Rattle.std.proofs.lemmas.List.{length-append, length-drop, length-take-le, drop-append-le, take_all}
use Rattle.std.proofs.lemmas.List.{nil_from_length, drop-drop, take_rest}
use Rattle.std.proofs.lemmas.List.Folds.{list_all-append}
use Rattle.std.proofs.Math.Seq.{drop-append-add}
use Rattle.nar.specs.declared.error.NarError.{NarError}
use Rattle.nar.specs.declared.error.NarError.TheVariants.{Truncated, BadPadding}
use Rattle.nar.specs.declared.count.Count.{Count}
use Rattle.nar.specs.declared.nest.Nest.{Nest}
use Rattle.nar.specs.String.{padded, size_of, length_at, string_of_length, string_at}
use Rattle.nar.specs.Tree.{Tree, IsBytes}
use Rattle.nar.specs.Archive.{IsArchive}
use Rattle.nar.specs.Fault.{IsFault}
use Rattle.nar.specs.Steps.{Symbol, start, stops}
use Rattle.nar.specs.Reader.{ReadsString}
use Rattle.nar.specs.Nest.{next}
use Rattle.nar.specs.NestView.{symbols_of, counts_at}
use Rattle.nar.specs.Feeding.{Fed, Waits, Counts, IsCounting, IsReachedBy}
use Rattle.nar.proofs.Strings.{padded_le, string_takes}
use Rattle.nar.proofs.Faults.{one_cause}
use Rattle.nar.proofs.Decided.{short}
use Rattle.nar.proofs.Feeding.{fed_more, fed_fault, fed_rest, fed_archive, waits_only, length_at-append, next_takes}
use Rattle.nar.proofs.Feeding.{next_refuses, string_refuses, fed_none}

-- ---- more bytes are counted

drop_past : (n : ℕ) (l : List ℕ) → length l ≤ n → drop n l ≡ []
drop_past n l h = nil_from_length (drop n l) (omega (arith, length-drop n l))

drop-append : (n : ℕ) (a b : List ℕ) → drop n (a ++ b) ≡ drop n a ++ drop (n - length a) b
drop-append n a b =
    elim (cases_lt (length a) n) [
      | inl h ↦
          let past : drop n a ≡ [] = drop_past n a (omega arith) in
          let split : n ≡ length a + (n - length a) = omega arith in
          ap (λ (k : ℕ). drop k (a ++ b)) split ∙ drop-append-add a b (n - length a)
          ∙ ap (λ (v : List ℕ). v ++ drop (n - length a) b) (sym past)
      | inr h ↦
          let none : n - length a ≡ 0 = omega arith in
          drop-append-le n a b h ∙ ap (λ (k : ℕ). drop n a ++ drop k b) (sym none)
    ]

drop_within : (n : ℕ) (l : List ℕ) → drop n l ≡ drop (min n (length l)) l
drop_within n l =
    elim (cases_lt (length l) n) [
      | inl h ↦ drop_past n l (omega arith) ∙ sym (drop_past (min n (length l)) l (omega arith))
      | inr h ↦ ap (λ (k : ℕ). drop k l) (omega arith)
    ]

pub counts_more : (k l : Count) (room : ℕ) (rest bytes : List ℕ) → l.text ≡ k.text → l.size ≡ k.size
    → l.got ≡ k.got + length bytes → length bytes ≤ k.size - k.got
    → l.is_clean ≡ (k.is_clean && list_all (λ b. eqb b 0) (drop (min (k.text - k.got) (length bytes)) bytes))
    → Counts k room rest → Counts l room (rest ++ bytes)
counts_more k l room rest bytes text size got few clean h =
    let len = length-append rest bytes in
    let long : 8 ≤ length rest = h.long in
    let same : length_at (rest ++ bytes) ≡ length_at rest = length_at-append rest bytes h.long in
    let is : k.got ≡ length rest = h.got_is in
    let within : length rest ≤ size_of (length_at rest) = h.within in
    let sized : k.size ≡ size_of (length_at rest) = h.size_is in
    let all : length (rest ++ bytes) ≤ size_of (length_at rest) = omega arith in
    let tail : drop (k.text - length rest) bytes ≡ drop (min (k.text - k.got) (length bytes)) bytes =
    drop_within (k.text - length rest) bytes
    ∙ ap (λ (g : ℕ). drop (min (k.text - g) (length bytes)) bytes) (sym is) in
    let cut : drop k.text (rest ++ bytes) ≡ drop k.text rest ++ drop (min (k.text - k.got) (length bytes)) bytes =
    drop-append k.text rest bytes ∙ ap (λ (v : List ℕ). drop k.text rest ++ v) tail in
    let both : list_all (λ b. eqb b 0) (drop k.text (rest ++ bytes))
    ≡ (list_all (λ b. eqb b 0) (drop k.text rest)
    && list_all (λ b. eqb b 0) (drop (min (k.text - k.got) (length bytes)) bytes)) =
    ap (list_all (λ b. eqb b 0)) cut
    ∙ list_all-append (λ b. eqb b 0) (drop k.text rest) (drop (min (k.text - k.got) (length bytes)) bytes) in
    record {
      text_is = text ∙ h.text_is ∙ ap (λ (n : ℕ). 8 + n) (sym same);
      size_is = size ∙ h.size_is ∙ ap size_of (sym same);
      got_is = got ∙ ap (λ (n : ℕ). n + length bytes) is ∙ sym len;
      long = omega arith;
      within = subst (λ (n : ℕ). length (rest ++ bytes) ≤ size_of n) (sym same) all;
      fits = subst (λ (n : ℕ). size_of n ≤ room) (sym same) h.fits;
      clean =
          clean ∙ ap (λ (b : Bool). b && list_all (λ b. eqb b 0) (drop (min (k.text - k.got) (length bytes)) bytes))
          h.clean ∙ sym both ∙ ap (λ (n : ℕ). list_all (λ b. eqb b 0) (drop n (rest ++ bytes))) (sym text);
    }

-- ---- while a string is counted, and at its end

pub count_waits : (room : ℕ) (rest : List ℕ) → 8 ≤ length rest → size_of (length_at rest) ≤ room
    → length rest < size_of (length_at rest) → string_at room rest ≡ Err Truncated
unfolding string_of_length
count_waits room rest long fits early =
    let a : ltb (length rest) 8 ≡ false = le-ltb _ _ long in
    let b : ltb room (size_of (length_at rest)) ≡ false = le-ltb _ _ fits in
    let d : ltb (length rest) (size_of (length_at rest)) ≡ true = lt-ltb _ _ early in
    rw (a, b, d) refl

whole_of : (n room : ℕ) (rest : List ℕ) (clean : Bool) → 8 ≤ length rest → size_of n ≤ room → length rest ≡ size_of n
    → clean ≡ list_all (λ b. eqb b 0) (drop (8 + n) rest)
    → string_of_length n room rest ≡ cond clean (Ok (take n (drop 8 rest), [])) (Err BadPadding)
unfolding string_of_length
whole_of n room rest clean long fits whole is =
    let above = padded_le n in
    let a : ltb (length rest) 8 ≡ false = le-ltb _ _ long in
    let b : ltb room (size_of n) ≡ false = le-ltb _ _ fits in
    let d : ltb (length rest) (size_of n) ≡ false = le-ltb _ _ (omega arith) in
    let end : drop (size_of n) rest ≡ [] = drop_past (size_of n) rest (omega arith) in
    let inner : drop n (drop 8 rest) ≡ drop (8 + n) rest =
    drop-drop n 8 rest ∙ ap (λ (k : ℕ). drop k rest) (omega arith) in
    let fill : take (padded n - n) (drop n (drop 8 rest)) ≡ drop n (drop 8 rest) =
    take_all (padded n - n) (drop n (drop 8 rest))
    (omega (arith, length-drop n (drop 8 rest), length-drop 8 rest)) in
    let test : list_all (λ b. eqb b 0) (take (padded n - n) (drop n (drop 8 rest))) ≡ clean =
    ap (list_all (λ b. eqb b 0)) (fill ∙ inner) ∙ sym is in
    rw (a, b, d, test, end) refl

pub count_whole : (k : Count) (room : ℕ) (rest : List ℕ) → Counts k room rest → length rest ≡ size_of (length_at rest)
    → string_at room rest ≡ cond k.is_clean (Ok (take (length_at rest) (drop 8 rest), [])) (Err BadPadding)
count_whole k room rest h whole =
    whole_of (length_at rest) room rest k.is_clean h.long h.fits whole
    (h.clean ∙ ap (λ (n : ℕ). list_all (λ b. eqb b 0) (drop n rest)) h.text_is)

text_length : (room : ℕ) (rest : List ℕ) → length rest ≡ size_of (length_at rest)
    → length (take (length_at rest) (drop 8 rest)) ≡ length_at rest
text_length room rest whole =
    length-take-le (length_at rest) (drop 8 rest) (omega (arith, length-drop 8 rest, padded_le (length_at rest)))

-- the string that was counted, read
count_reads : (k : Count) (room : ℕ) (rest : List ℕ) → IsBytes rest → Counts k room rest
    → length rest ≡ size_of (length_at rest) → k.is_clean ≡ true
    → ReadsString room rest (take (length_at rest) (drop 8 rest)) (room - k.size) []
count_reads k room rest bytes h whole clean =
    let is : string_at room rest ≡ Ok (take (length_at rest) (drop 8 rest), []) =
    count_whole k room rest h whole ∙ rw clean refl in
    let t = string_takes room rest (take (length_at rest) (drop 8 rest)) [] bytes is in
    let len = text_length room rest whole in
    let fits : size_of (length_at rest) ≤ room = h.fits in
    let sized : k.size ≡ size_of (length_at rest) = h.size_is in
    let size : size_of (length (take (length_at rest) (drop 8 rest))) + (room - k.size) ≡ room =
    ap (λ (n : ℕ). size_of n + (room - k.size)) len ∙ omega arith in
    record { is = is; parts = t.parts; text_bytes = t.text_bytes; size = size }

-- the bytes counted so far, and these
counting_prefix : (k : Count) (nest : Nest) (room : ℕ) (all front : List ℕ) → (h : IsCounting k nest room all)
    → Fed (symbols_of nest) room (h.rest ++ front) (all ++ front)
counting_prefix k nest room all front h = fed_more (symbols_of nest) room h.rest all front h.fed

pub counting_more : (k l : Count) (nest : Nest) (room : ℕ) (all front : List ℕ)
    → ((room : ℕ) (rest : List ℕ) → Counts k room rest → Counts l room (rest ++ front)) → l.text ≡ k.text
    → l.size ≡ k.size → 0 < l.size - l.got
    → IsCounting k nest room all → IsCounting l nest room (all ++ front)
counting_more k l nest room all front more text size left h =
    let c = more room h.rest h.counts in
    let sized : l.size ≡ size_of (length_at (h.rest ++ front)) = c.size_is in
    let got : l.got ≡ length (h.rest ++ front) = c.got_is in
    record {
      rest = h.rest ++ front;
      fed = counting_prefix k nest room all front h;
      counts = c;
      early = omega arith;
      some = h.some;
      is_counted = subst (λ (n : ℕ). IsTrue (counts_at nest (n - 8))) (sym text) h.is_counted;
    }

-- nothing is left to count
at_end : (l : Count) (room : ℕ) (rest : List ℕ) → Counts l room rest → l.size - l.got ≤ 0
    → length rest ≡ size_of (length_at rest)
at_end l room rest c none =
    let sized : l.size ≡ size_of (length_at rest) = c.size_is in
    let got : l.got ≡ length rest = c.got_is in
    let within : length rest ≤ size_of (length_at rest) = c.within in
    omega arith

module _ (k l : Count) (nest : Nest) (room : ℕ) (all front : List ℕ)
    (more : (room : ℕ) (rest : List ℕ) → Counts k room rest → Counts l room (rest ++ front)) (text : l.text ≡ k.text)
    (none : l.size - l.got ≤ 0) (bytes : IsBytes (all ++ front)) (h : IsCounting k nest room all) where
  abbrev Rest : List ℕ
  Rest = h.rest ++ front

  abbrev counted : Counts l room Rest
  counted = more room h.rest h.counts

  whole : length Rest ≡ size_of (length_at Rest)
  whole = at_end l room Rest counted none

  fed : Fed (symbols_of nest) room Rest (all ++ front)
  fed = counting_prefix k nest room all front h

  rest_bytes : IsBytes Rest
  rest_bytes = fed_rest (symbols_of nest) room Rest (all ++ front) fed bytes

  pub text_of : length (take (length_at Rest) (drop 8 Rest)) ≡ l.text - 8
  text_of = (let is : l.text ≡ 8 + length_at Rest = counted.text_is in text_length room Rest whole ∙ omega arith)

  pub is_counted_text : IsTrue (counts_at nest (l.text - 8))
  is_counted_text = subst (λ (n : ℕ). IsTrue (counts_at nest (n - 8))) (sym text) h.is_counted

  pub dirty_end : l.is_clean ≡ false → IsFault (all ++ front) BadPadding × (BadPadding ≢ Truncated)
  dirty_end dirty =
      let is : string_at room Rest ≡ Err BadPadding = count_whole l room Rest counted whole ∙ rw dirty refl in (
        string_refuses (symbols_of nest) room Rest (all ++ front) BadPadding is h.some rest_bytes fed,
        λ (q : BadPadding ≡ Truncated). absurd cc,
      )

  pub end_refuses : (e : NarError) → l.is_clean ≡ true
      → next (symbols_of nest) (take (length_at Rest) (drop 8 Rest)) ≡ Err e
      → IsFault (all ++ front) e × (e ≢ Truncated)
  end_refuses e clean bad =
      next_refuses (symbols_of nest) room Rest (all ++ front) (take (length_at Rest) (drop 8 Rest)) (room - l.size) [] e
      bad h.some (count_reads l room Rest rest_bytes counted whole clean) rest_bytes fed

  pub end_takes : (τ : List Symbol) → l.is_clean ≡ true
      → next (symbols_of nest) (take (length_at Rest) (drop 8 Rest)) ≡ Ok τ
      → Fed τ (room - l.size) [] (all ++ front) × Waits τ (room - l.size) []
  end_takes τ clean ok = (
    next_takes (symbols_of nest) τ room Rest (all ++ front) (take (length_at Rest) (drop 8 Rest)) (room - l.size) []
        ok (count_reads l room Rest rest_bytes counted whole clean) fed,
    waits_none τ (room - l.size),
  )
    where
      waits_none : (τ : List Symbol) (room : ℕ) → Waits τ room []
      waits_none [] room = refl
      waits_none (x ∷ κ) room = short room [] (omega arith)

  -- what `skip` says of strings of that length
  pub skip_refuses : (len : ℕ) (e : NarError) → len ≡ l.text - 8 → l.is_clean ≡ true
      → ((s : List ℕ) → length s ≡ len → IsTrue (counts_at nest len) → symbols_of nest ≢ []
      → next (symbols_of nest) s ≡ Err e)
      → IsFault (all ++ front) e × (e ≢ Truncated)
  skip_refuses len e is clean refuses =
      end_refuses e clean (refuses (take (length_at Rest) (drop 8 Rest)) (text_of ∙ sym is)
      (subst (λ (n : ℕ). IsTrue (counts_at nest n)) (sym is) is_counted_text) h.some)

  pub skip_takes : (len : ℕ) (τ : List Symbol) → len ≡ l.text - 8 → l.is_clean ≡ true
      → ((s : List ℕ) → length s ≡ len → IsTrue (counts_at nest len) → next (symbols_of nest) s ≡ Ok τ)
      → Fed τ (room - l.size) [] (all ++ front) × Waits τ (room - l.size) []
  skip_takes len τ is clean takes =
      end_takes τ clean (takes (take (length_at Rest) (drop 8 Rest)) (text_of ∙ sym is)
      (subst (λ (n : ℕ). IsTrue (counts_at nest n)) (sym is) is_counted_text))

-- ---- a string begins to be counted

pub tail_nil : (bytes : List ℕ) → take (length bytes - length bytes) (drop (length bytes) bytes) ≡ []
tail_nil bytes = take_rest bytes (length bytes) ∙ drop_past (length bytes) bytes (omega arith)

pub begins_counting : (k : Count) (nest : Nest) (room : ℕ) (rest all : List ℕ) → Counts k room rest
    → length rest < k.size → IsTrue (counts_at nest (k.text - 8))
    → Fed (symbols_of nest) room rest all × Waits (symbols_of nest) room rest
    → IsCounting k nest room all
begins_counting k nest room rest all counts early counted h = record {
  rest = rest;
  fed = h.0;
  counts = counts;
  early = (let sized : k.size ≡ size_of (length_at rest) = counts.size_is in omega arith);
  some = λ none. by_symbols (symbols_of nest) none h.1;
  is_counted = counted;
}
  where
    by_symbols : (σ : List Symbol) → σ ≡ [] → Waits σ room rest → ⊥
    by_symbols [] e w =
        (let long : 8 ≤ length rest = counts.long in let none : length rest ≡ 0 = ap length w in omega arith)
    by_symbols (x ∷ κ) e w = absurd cc

-- ---- what is there, at the end

pub has_read_only : (count : Option Count) (nest : Nest) (room : ℕ) (held all : List ℕ) (e : NarError)
    → IsReachedBy count nest room held all → IsBytes all → IsFault all e → e ≡ Truncated
has_read_only None nest room held all e h b f = waits_only (symbols_of nest) room held all e h.0 h.1 b f
has_read_only (Some k) nest room held all e h b f = one_cause all e Truncated b f (counting_early k nest room all b h.1)
  where
    counting_early : (k : Count) (nest : Nest) (room : ℕ) (all : List ℕ) → IsBytes all → IsCounting k nest room all
        → IsFault all Truncated
    counting_early k nest room all b h =
        string_refuses (symbols_of nest) room h.rest all Truncated
        (count_waits room h.rest h.counts.long h.counts.fits h.early) h.some
        (fed_rest (symbols_of nest) room h.rest all h.fed b) h.fed

pub is_whole : (count : Option Count) (nest : Nest) (room : ℕ) (held all : List ℕ) → symbols_of nest ≡ []
    → IsReachedBy count nest room held all → (t : Tree) × IsArchive t all
is_whole None nest room held all none h = by_symbols (symbols_of nest) none h.0 h.1
  where
    by_symbols : (σ : List Symbol) → σ ≡ [] → Fed σ room held all → Waits σ room held → (t : Tree) × IsArchive t all
    by_symbols [] e f w = fed_archive room all (subst (λ (v : List ℕ). Fed [] room v all) w f)
    by_symbols (x ∷ κ) e f w = absurd cc
is_whole (Some k) nest room held all none h = absurd (h.1.some none)

pub is_early : (count : Option Count) (nest : Nest) (room : ℕ) (held all : List ℕ) → symbols_of nest ≢ [] → IsBytes all
    → IsReachedBy count nest room held all → IsFault all Truncated
is_early None nest room held all some b h = by_symbols (symbols_of nest) some h.0 h.1
  where
    by_symbols : (σ : List Symbol) → σ ≢ [] → Fed σ room held all → Waits σ room held → IsFault all Truncated
    by_symbols [] some f w = absurd (some refl)
    by_symbols (x ∷ κ) some f w =
        fed_fault (x ∷ κ) room held all Truncated f (fed_rest (x ∷ κ) room held all f b) (stops w)
is_early (Some k) nest room held all some b h =
    string_refuses (symbols_of nest) room h.1.rest all Truncated
    (count_waits room h.1.rest h.1.counts.long h.1.counts.fits h.1.early) h.1.some
    (fed_rest (symbols_of nest) room h.1.rest all h.1.fed b) h.1.fed

-- nothing was fed yet
pub has_read_nothing : (nest : Nest) → symbols_of nest ≡ start → IsReachedBy None nest 16777216 [] []
has_read_nothing nest is =
    subst (λ (σ : List Symbol). Fed σ 16777216 [] [] × Waits σ 16777216 []) (sym is)
    (fed_none, short 16777216 [] (omega arith))

-- Lines that show that no head begins.
use Rattle.std.proofs.Common.{◌≡◌, ℕ, suc, ◌+◌, ◌-◌, ◌<◌, ◌≤◌, max, Bool, List, [], ◌∷◌, ◌++◌, length, take, drop}
use Rattle.std.proofs.Common.{get_or, true, false, refl, sym, ap, ◌∙◌, arith, append_assoc, subst, inl, inr}
use Rattle.std.proofs.Common.{length-append, length-drop}
use Rattle.std.specs.Prelude.{◌==◌, ◌||◌, Result, IsErr}
use Rattle.std.specs.List.{list_any}
use Rattle.std.proofs.Math.Bool.{or-true}
use Rattle.std.proofs.Math.Seq.{take-append-add, get_or-append_seam}
use Rattle.std.proofs.lemmas.Bool.{cases_lt}
use Rattle.std.proofs.lemmas.Bool.Decides.{nat_tests}
use Rattle.std.proofs.lemmas.List.{get_or-drop}
use Rattle.std.proofs.lemmas.List.Elements.{All-nil, All-push, All-head, All-tail}
use Rattle.std.proofs.lemmas.List.Folds.{list_any-append}
use Rattle.std.proofs.lemmas.Str.{IsUtf8-from_ascii}
use Rattle.std.proofs.lemmas.Str.Ascii.{IsAscii-cons, IsAscii-nil}
use Rattle.httparse.specs.Grammar.{AllPass, is_token_byte, is_uri_byte, lf, print_end, print_blank, print_version}
use Rattle.httparse.specs.Grammar.{print_section, RequestHead, print_request, ReadsRequest, HasNoRequest, IsField}
use Rattle.httparse.specs.Grammar.{MayBecomeRequest}
use Rattle.httparse.proofs.GrammarLemmas.{print_request-append, request_unique}
use Rattle.wire_server.specs.declared.head.Head.{Head}
use Rattle.wire_server.specs.declared.error.Fault.{Fault}
use Rattle.wire_server.specs.Heads.{Holds, ShowsNoHead, ShowsNothing, has_begun_in, max_head}
use Rattle.wire_server.specs.Messages.{FindsSoon, HoldsTo, HoldsLittle}
use Rattle.wire_server.proofs.Beginnings.{has_begun_before}
use Rattle.wire_server.proofs.Heads.{head_in_prefix}

-- ---- line feeds

abbrev has_feed : List ℕ → Bool
has_feed bytes = list_any (λ b. b == 10) bytes

-- bytes that pass a test that a line feed doesn't pass have none
no_feed : (test : ℕ → Bool) → test 10 ≡ false → (bytes : List ℕ) → AllPass test bytes → has_feed bytes ≡ false
no_feed test lacks [] all = refl
no_feed test lacks (b ∷ bytes) all =
    ap (λ v. v || has_feed bytes) (by (b == 10) refl)
    ∙ no_feed test lacks bytes (All-tail (λ v. test v ≡ true) b bytes all)
  where
    by : (v : Bool) → (b == 10) ≡ v → (b == 10) ≡ false
    by true e =
        let same : b ≡ 10 = grind (arith, nat_tests) in
        let passes : test 10 ≡ true = subst (λ x. test x ≡ true) same (All-head (λ v. test v ≡ true) b bytes all) in
        absurd (cc)
    by false e = e

feed_is_no_token : is_token_byte 10 ≡ false
unfolding is_token_byte
feed_is_no_token = refl

-- a line feed of bytes and of others that have none is among the first
among_first : (first line after others : List ℕ) → has_feed others ≡ false → line ++ 10 ∷ after ≡ first ++ others
    → (rest : List ℕ) × (first ≡ (line ++ 10 ∷ []) ++ rest)
among_first [] line after others none e =
    let has : has_feed (line ++ 10 ∷ after) ≡ true =
    list_any-append (λ b. b == 10) line (10 ∷ after) ∙ or-true (has_feed line) in
    absurd (let both : true ≡ false = sym has ∙ ap has_feed e ∙ none in cc)
among_first (b ∷ first) [] after others none e = (first, ap (λ x. x ∷ first) (sym (ap (λ t. get_or t 0 0) e)))
among_first (b ∷ first) (x ∷ line) after others none e =
    let more = among_first first line after others none (ap (drop 1) e) in
    (more.0, ap (λ y. y ∷ first) (sym (ap (λ t. get_or t 0 0) e)) ∙ ap (λ t. x ∷ t) more.1)

-- ---- what a look finds

-- the bytes are the line, its end, and what follows them
line_first : (line after more : List ℕ) → (line ++ 10 ∷ after) ++ more ≡ (line ++ 10 ∷ []) ++ (after ++ more)
line_first line after more =
    append_assoc line (10 ∷ after) more ∙ sym (append_assoc line (10 ∷ []) (after ++ more))

-- where there is a head no line shows that there is none
pub no_whole : (buf line after : List ℕ) → ShowsNoHead buf line after → (h : RequestHead) (rest : List ℕ)
    → ReadsRequest buf h rest → ⊥
no_whole buf line after (is, never) h rest reads =
    never after h rest
    (subst (λ t. ReadsRequest t h rest) (is ∙ sym (append_assoc line (10 ∷ []) after)) reads)

-- and none where there may be a head
pub no_part : (buf line after : List ℕ) → ShowsNoHead buf line after → MayBecomeRequest buf → ⊥
no_part buf line after (is, never) (inl (more, h, reads)) =
    never (after ++ more) h []
    (subst (λ t. ReadsRequest t h []) (ap (λ t. t ++ more) is ∙ line_first line after more) reads)
no_part buf line after (is, never) (inr (blank, method, target, token, uri, text)) =
    let none : has_feed (method ++ 32 ∷ target) ≡ false =
    list_any-append (λ b. b == 10) method (32 ∷ target)
    ∙ ap (λ v. v || has_feed target) (no_feed is_token_byte feed_is_no_token method token.1)
    ∙ no_feed is_uri_byte refl target uri in
    let parts = sym is ∙ text ∙ append_assoc (print_blank blank) method (32 ∷ target) in
    let front = among_first (print_blank blank) line after (method ++ 32 ∷ target) none parts in
    let h : RequestHead =
    record { blank = blank; method = method; target = 47 ∷ []; minor = 1; line_end = lf; fields = []; last = lf } in
    let tail =
    method ++ 32 ∷ ((47 ∷ []) ++ 32 ∷ (print_version 1 ++ (print_end lf ++ (print_section [] lf ++ [])))) in
    never (front.0 ++ tail) h [] (
      record {
        method = token;
        target = (omega arith, All-push (λ v. is_uri_byte v ≡ true) [] 47 (All-nil _) refl);
        target_text = IsUtf8-from_ascii _ (IsAscii-cons 47 [] (omega arith) IsAscii-nil);
        minor = omega arith;
        fields = All-nil IsField;
      },
      sym (append_assoc (line ++ 10 ∷ []) front.0 tail) ∙ ap (λ t. t ++ tail) (sym front.1)
          ∙ sym (print_request-append h []),
    )

-- its end is among the bytes that weren't seen
pub feed_in_rest : (buf line after new : List ℕ) (seen : ℕ) → ShowsNoHead buf line after → seen ≤ length line
    → new ≡ drop seen buf → ((k d : ℕ) → 0 ≤ k → k < length new → (get_or new k d == 10) ≡ false) → ⊥
feed_in_rest buf line after new seen (is, never) later rest lacks =
    let k = length line - seen in
    let place : seen + k ≡ length line = omega arith in
    let found : get_or new k 0 ≡ 10 =
    ap (λ t. get_or t k 0) rest ∙ get_or-drop seen buf k 0 ∙ ap (λ i. get_or buf i 0) place
    ∙ ap (λ t. get_or t (length line) 0) is ∙ get_or-append_seam line 10 after 0 in
    let not : (get_or new k 0 == 10) ≡ false =
    lacks k 0 (omega arith)
    (omega (arith, length-drop seen buf, ap length rest, ap length is, length-append line (10 ∷ after))) in
    let yes : (get_or new k 0 == 10) ≡ true = ap (λ b. b == 10) found in
    cc

-- ---- what was read

pub none_shown_in_nothing : ShowsNothing []
none_shown_in_nothing line after (is, never) begun =
    absurd (omega (arith, ap length is, length-append line (10 ∷ after)))

-- a line in a prefix
line_in_prefix : (bytes line after : List ℕ) (seen : ℕ) → bytes ≡ line ++ 10 ∷ after → length line < seen
    → take seen bytes ≡ line ++ 10 ∷ take (seen - (length line + 1)) after
line_in_prefix bytes line after seen is within =
    let k = seen - (length line + 1) in
    let same : seen ≡ length line + suc k = omega arith in
    ap (take seen) is ∙ ap (λ m. take m (line ++ 10 ∷ after)) same ∙ take-append-add line (10 ∷ after) (suc k)

pub holds_little : (n seen : ℕ) (bytes : List ℕ) → HasNoRequest (take seen bytes) → ShowsNothing (take seen bytes)
    → seen < max_head → length bytes ≤ max n (seen + 4096) → HoldsLittle n bytes
holds_little n seen bytes none shown short few = record {
  most = omega (arith, few, short);
  head = λ h after is. elim (cases_lt seen (length (print_request h))) [
    | inl later ↦ omega (arith, few)
    | inr before ↦ absurd (none h _ (head_in_prefix bytes h after seen is before))
  ];
  line = λ line after shows begun. elim (cases_lt (length line) seen) [
    | inl before ↦ absurd (shown line _ (line_in_prefix bytes line after seen shows.0 before, shows.1) begun)
    | inr later ↦ omega (arith, few)
  ];
}

-- a look that finds no fault shows that none of the bytes' lines does
pub shown_next : {T : Type 0} (buf : List ℕ) (seen : ℕ) (result : Result T Fault) → ShowsNothing (take seen buf)
    → (has_begun_in buf ≡ true → FindsSoon buf seen result) → (IsErr result → ⊥) → ShowsNothing buf
shown_next buf seen result shown soon sound line after shows begun =
    elim (cases_lt (length line) seen) [
      | inl before ↦ shown line _ (line_in_prefix buf line after seen shows.0 before, shows.1) begun
      | inr later ↦
          let has : has_begun_in buf ≡ true = ap has_begun_in shows.0 ∙ has_begun_before line (10 ∷ after) begun in
          sound (soon has line after shows later)
    ]

-- a head is held, and little after it
pub little_after : (n : ℕ) (bytes : List ℕ) (head : Head) (h : RequestHead) → Holds bytes head h
    → HoldsTo n head.spans.len bytes → HoldsLittle n bytes
little_after n bytes head h holds near = record {
  most = omega (arith, near, holds.places.len, holds.is_head.short);
  head = λ k after is.
      let same = request_unique bytes h k _ after holds.is_head.reads is in
      let size : length (print_request h) ≡ length (print_request k) = ap (λ x. length (print_request x)) same.0 in
      omega (arith, near, size, holds.places.len);
  line = λ line after shows begun. absurd (no_whole bytes line after shows h _ holds.is_head.reads);
}

-- no more than that where more may be held
pub little_more : (n m : ℕ) (bytes : List ℕ) → n ≤ m → HoldsLittle n bytes → HoldsLittle m bytes
little_more n m bytes more little = record {
  most = omega (arith, little.most, more);
  head = λ h after is. omega (arith, little.head h after is, more);
  line = λ line after shows begun. omega (arith, little.line line after shows begun, more);
}

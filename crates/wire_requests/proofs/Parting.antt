-- Bodies whose payload is kept apart.
use Rattle.std.proofs.Common.{◌≡◌, ℕ, List, [], ◌∷◌, ◌++◌, length, refl, sym, ap, ◌∙◌, arith, append_assoc}
use Rattle.std.proofs.Common.{append-nil, subst, inl, inr}
use Rattle.std.proofs.lemmas.List.{append_cancel_left, nil_from_length}
use Rattle.std.specs.Prelude.{Option, Some, None, IsSome, Result, Ok, Err, OnOk, OnErr, is_ok, is_none, true, false}
use Rattle.std.proofs.lemmas.Bool.{false≢true}
use Rattle.intake.specs.Arrival.{appended, bytes_in}
use Rattle.wire_bodies.specs.Bodies.{IsNamedBody, IsImportBody}
use Rattle.wire_bodies.specs.declared.heads.NamedHead.{NamedHead}
use Rattle.wire_bodies.specs.declared.import.ImportHead.{ImportHead}
use Rattle.wire_bodies.specs.Prefix.{place_after, prefix_from, rest_from, prefix_of, rest_of}
use Rattle.wire_bodies.specs.declared.prefix.Place.{Place}
use Rattle.wire_bodies.specs.declared.prefix.Place.TheVariants.{BeginsLine, WithinLine, AfterPrefix}
use Rattle.model.specs.Request as asked
use Rattle.store_types.specs.Spent.{is_spent}
use Rattle.store_types.specs.View.{request_view}
use Rattle.store_types.specs.declared.requests.Request.{Request}
use Rattle.wire_requests.specs.Kept.{IsParted, IsRequest, without_archive}
use Rattle.wire_requests.specs.Reads.{Makes, Reads}
use Rattle.wire_requests.specs.declared.error.AskError.{AskError}
use Rattle.wire_requests.specs.declared.kind.Kind.{Kind}
use Rattle.wire_bodies.proofs.Prefixes.{prefix_append, rest_append, prefix_again, rest_prefix, both, of_prefix}
use Rattle.wire_bodies.proofs.Prefixes.{from_prefix}

-- a place from which nothing more belongs to the prefix
closed_at : (p : Place) (b : ℕ) (text : List ℕ) → prefix_from p (b ∷ text) ≡ [] → p ≡ AfterPrefix
closed_at AfterPrefix b text none = refl
closed_at BeginsLine b text none =
    absurd (let size : length (prefix_from BeginsLine (b ∷ text)) ≡ 0 = ap length none in omega arith)
closed_at WithinLine b text none =
    absurd (let size : length (prefix_from WithinLine (b ∷ text)) ≡ 0 = ap length none in omega arith)

prefix_whole : (prefix archive : List ℕ) → prefix_of (prefix ++ archive) ≡ prefix → prefix_of prefix ≡ prefix
prefix_whole prefix archive is = ap prefix_of (sym is) ∙ prefix_again BeginsLine (prefix ++ archive) ∙ is

-- a prefix that something follows is at its end
closed : (prefix : List ℕ) (b : ℕ) (archive : List ℕ) → prefix_of (prefix ++ b ∷ archive) ≡ prefix
    → place_after BeginsLine prefix ≡ AfterPrefix
closed prefix b archive is =
    let place = place_after BeginsLine prefix in
    let more : prefix ++ prefix_from place (b ∷ archive) ≡ prefix ++ [] =
    ap (λ t. t ++ prefix_from place (b ∷ archive)) (sym (prefix_whole prefix (b ∷ archive) is))
    ∙ sym (prefix_append BeginsLine prefix (b ∷ archive)) ∙ is ∙ sym (append-nil prefix) in
    closed_at place b archive (append_cancel_left prefix (prefix_from place (b ∷ archive)) [] more)

closed_prefix : (prefix piece : List ℕ) → prefix_of prefix ≡ prefix → place_after BeginsLine prefix ≡ AfterPrefix
    → prefix_of (prefix ++ piece) ≡ prefix
closed_prefix prefix piece whole closed =
    prefix_append BeginsLine prefix piece ∙ ap (λ p. prefix_of prefix ++ prefix_from p piece) closed
    ∙ append-nil (prefix_of prefix) ∙ whole

closed_rest : (prefix piece : List ℕ) → prefix_of prefix ≡ prefix → place_after BeginsLine prefix ≡ AfterPrefix
    → rest_of (prefix ++ piece) ≡ piece
closed_rest prefix piece whole closed =
    rest_append BeginsLine prefix piece ∙ ap (λ p. rest_of prefix ++ rest_from p piece) closed
    ∙ ap (λ t. t ++ piece) (ap rest_of (sym whole) ∙ rest_prefix BeginsLine prefix)

-- one piece more, divided at the end of the prefix
pub all_more : (prefix archive piece : List ℕ) → prefix_of (prefix ++ archive) ≡ prefix
    → prefix_of (prefix ++ piece) ++ (archive ++ rest_of (prefix ++ piece)) ≡ (prefix ++ archive) ++ piece
all_more prefix [] piece is = both BeginsLine (prefix ++ piece) ∙ ap (λ t. t ++ piece) (sym (append-nil prefix))
all_more prefix (b ∷ archive) piece is =
    let whole = prefix_whole prefix (b ∷ archive) is in
    let end = closed prefix b archive is in
    ap (λ t. t ++ (b ∷ archive ++ rest_of (prefix ++ piece))) (closed_prefix prefix piece whole end)
    ∙ ap (λ t. prefix ++ (b ∷ archive ++ t)) (closed_rest prefix piece whole end)
    ∙ sym (append_assoc prefix (b ∷ archive) piece)

pub still_parted : (prefix archive piece : List ℕ) → prefix_of (prefix ++ archive) ≡ prefix
    → prefix_of (prefix_of (prefix ++ piece) ++ (archive ++ rest_of (prefix ++ piece))) ≡ prefix_of (prefix ++ piece)
still_parted prefix [] piece is = ap prefix_of (both BeginsLine (prefix ++ piece))
still_parted prefix (b ∷ archive) piece is =
    let whole = prefix_whole prefix (b ∷ archive) is in
    let end = closed prefix b archive is in
    ap prefix_of (all_more prefix (b ∷ archive) piece is ∙ append_assoc prefix (b ∷ archive) piece)
    ∙ closed_prefix prefix (b ∷ archive ++ piece) whole end ∙ sym (closed_prefix prefix piece whole end)

-- what follows a prefix is the rest
pub archive_is : (prefix archive : List ℕ) → prefix_of (prefix ++ archive) ≡ prefix
    → archive ≡ rest_of (prefix ++ archive)
archive_is prefix archive is =
    sym (append_cancel_left prefix (rest_of (prefix ++ archive)) archive
    (ap (λ t. t ++ rest_of (prefix ++ archive)) (sym is) ∙ both BeginsLine (prefix ++ archive)))

-- an intake that isn't spent has one piece more
pub bytes_more : (archive : Option (List ℕ)) (piece : List ℕ) → IsSome archive
    → bytes_in (appended archive piece) ≡ bytes_in archive ++ piece
bytes_more None piece some = let h : false ≡ true = some in cc
bytes_more (Some bytes) piece some = refl

text_more : (prefix piece next rest : List ℕ) (archive after : Option (List ℕ)) → next ≡ prefix_of (prefix ++ piece)
    → rest ≡ rest_of (prefix ++ piece)
    → after ≡ appended archive rest → IsSome archive
    → next ++ bytes_in after ≡ prefix_of (prefix ++ piece) ++ (bytes_in archive ++ rest_of (prefix ++ piece))
text_more prefix piece next rest archive after is rest_is has some =
    ap (λ t. t ++ bytes_in after) is
    ∙ ap (λ t. prefix_of (prefix ++ piece) ++ t)
    (ap bytes_in has ∙ bytes_more archive rest some ∙ ap (λ t. bytes_in archive ++ t) rest_is)

-- both have taken their part of a piece
pub more_parted : (prefix piece next rest : List ℕ) (archive after : Option (List ℕ))
    → prefix_of (prefix ++ bytes_in archive) ≡ prefix
    → next ≡ prefix_of (prefix ++ piece) → rest ≡ rest_of (prefix ++ piece) → after ≡ appended archive rest
    → IsSome archive → prefix_of (next ++ bytes_in after) ≡ next
more_parted prefix piece next rest archive after whole is rest_is has some =
    ap prefix_of (text_more prefix piece next rest archive after is rest_is has some)
    ∙ still_parted prefix (bytes_in archive) piece whole ∙ sym is

pub more_bytes : (prefix piece next rest : List ℕ) (archive after : Option (List ℕ))
    → prefix_of (prefix ++ bytes_in archive) ≡ prefix
    → next ≡ prefix_of (prefix ++ piece) → rest ≡ rest_of (prefix ++ piece) → after ≡ appended archive rest
    → IsSome archive
    → next ++ bytes_in after ≡ (prefix ++ bytes_in archive) ++ piece
more_bytes prefix piece next rest archive after whole is rest_is has some =
    text_more prefix piece next rest archive after is rest_is has some ∙ all_more prefix (bytes_in archive) piece whole

-- nothing of a piece is after the prefix
lines_more : (prefix piece next rest archive : List ℕ) → next ≡ prefix_of (prefix ++ piece)
    → rest ≡ rest_of (prefix ++ piece) → length rest ≡ 0
    → next ++ archive ≡ prefix_of (prefix ++ piece) ++ (archive ++ rest_of (prefix ++ piece))
lines_more prefix piece next rest archive is rest_is none =
    let gone : rest_of (prefix ++ piece) ≡ [] = sym rest_is ∙ nil_from_length rest none in
    ap (λ t. t ++ archive) is ∙ ap (λ t. prefix_of (prefix ++ piece) ++ t)
    (sym (append-nil archive) ∙ ap (λ t. archive ++ t) (sym gone))

pub lines_parted : (prefix piece next rest archive : List ℕ) → prefix_of (prefix ++ archive) ≡ prefix
    → next ≡ prefix_of (prefix ++ piece) → rest ≡ rest_of (prefix ++ piece)
    → length rest ≡ 0 → prefix_of (next ++ archive) ≡ next
lines_parted prefix piece next rest archive whole is rest_is none =
    ap prefix_of (lines_more prefix piece next rest archive is rest_is none) ∙ still_parted prefix archive piece whole
    ∙ sym is

pub lines_bytes : (prefix piece next rest archive : List ℕ) → prefix_of (prefix ++ archive) ≡ prefix
    → next ≡ prefix_of (prefix ++ piece) → rest ≡ rest_of (prefix ++ piece)
    → length rest ≡ 0 → next ++ archive ≡ (prefix ++ archive) ++ piece
lines_bytes prefix piece next rest archive whole is rest_is none =
    lines_more prefix piece next rest archive is rest_is none ∙ all_more prefix archive piece whole

-- the prefix has its part, and the archive is spent
pub spent_parted : (text next : List ℕ) (after : Option (List ℕ)) → next ≡ prefix_of text → after ≡ None
    → prefix_of (next ++ bytes_in after) ≡ next
spent_parted text next after is spent =
    ap (λ t. prefix_of (next ++ bytes_in t)) spent ∙ ap prefix_of (append-nil next ∙ is) ∙ prefix_again BeginsLine text
    ∙ sym is

-- ---- what stands for a body

pub lines_in : (lines : List ℕ) (archive : Option (List ℕ)) (body : List ℕ) → IsParted lines archive body
    → prefix_of body ≡ lines
lines_in lines None body is = is
lines_in lines (Some nar) body is = is.0

module _ (lines piece body : List ℕ) (is : prefix_of body ≡ lines) where
  parts : lines ++ rest_of body ≡ body
  parts = ap (λ t. t ++ rest_of body) (sym is) ∙ both BeginsLine body

  parted : prefix_of (lines ++ rest_of body) ≡ lines
  parted = ap prefix_of parts ∙ is

  -- the lines of a body that has one piece more
  lines_with : prefix_of (body ++ piece) ≡ prefix_of (lines ++ piece)
  lines_with =
      ap (λ t. prefix_of (t ++ piece)) (sym parts) ∙ ap prefix_of (sym (all_more lines (rest_of body) piece parted))
      ∙ still_parted lines (rest_of body) piece parted

  -- and what follows them
  rest_with : rest_of (body ++ piece) ≡ rest_of body ++ rest_of (lines ++ piece)
  rest_with =
      ap (λ t. rest_of (t ++ piece)) (sym parts) ∙ ap rest_of (sym (all_more lines (rest_of body) piece parted))
      ∙ sym (archive_is (prefix_of (lines ++ piece)) (rest_of body ++ rest_of (lines ++ piece))
      (still_parted lines (rest_of body) piece parted))

module _ (lines piece next rest : List ℕ) (is : next ≡ prefix_of (lines ++ piece))
    (rest_is : rest ≡ rest_of (lines ++ piece)) where
  -- lines and archive have taken their part of a piece
  pub parted_more : (archive after : Option (List ℕ)) (body : List ℕ) → after ≡ appended archive rest
      → IsParted lines archive body → IsParted next after (body ++ piece)
  parted_more None after body has known =
      subst (λ a. IsParted next a (body ++ piece)) (sym has) (lines_with lines piece body known ∙ sym is)
  parted_more (Some nar) after body has known =
      subst (λ a. IsParted next a (body ++ piece)) (sym has) (
        lines_with lines piece body known.0 ∙ sym is,
        rest_with lines piece body known.0 ∙ ap (λ t. t ++ rest_of (lines ++ piece)) known.1
            ∙ ap (λ t. nar ++ t) (sym rest_is),
      )

  -- the lines have, and the archive is spent
  pub parted_spent : (archive after : Option (List ℕ)) (body : List ℕ) → after ≡ None → IsParted lines archive body
      → IsParted next after (body ++ piece)
  parted_spent archive after body has known =
      subst (λ a. IsParted next a (body ++ piece)) (sym has)
      (lines_with lines piece body (lines_in lines archive body known) ∙ sym is)

  pub parted_pushed : {E : Type 0} (r : Result (Unit {0}) E) (archive after : Option (List ℕ)) (body : List ℕ)
      → OnOk r ((after ≡ appended archive rest) × IsSome archive) → OnErr r (after ≡ None)
      → IsParted lines archive body → IsParted next after (body ++ piece)
  parted_pushed (Ok u) archive after body ok err known = parted_more archive after body ok.0 known
  parted_pushed (Err e) archive after body ok err known = parted_spent archive after body err known

  -- they are still parted
  pub pushed_parted : {E : Type 0} (r : Result (Unit {0}) E) (archive after : Option (List ℕ))
      → prefix_of (lines ++ bytes_in archive) ≡ lines
      → OnOk r ((after ≡ appended archive rest) × IsSome archive) → OnErr r (after ≡ None)
      → prefix_of (next ++ bytes_in after) ≡ next
  pushed_parted (Ok u) archive after whole ok err =
      more_parted lines piece next rest archive after whole is rest_is ok.0 ok.1
  pushed_parted (Err e) archive after whole ok err = spent_parted (lines ++ piece) next after is err

  -- where nothing was refused they have the whole piece
  pub pushed_bytes : {E : Type 0} (r : Result (Unit {0}) E) (archive after : Option (List ℕ))
      → prefix_of (lines ++ bytes_in archive) ≡ lines → is_ok r ≡ true
      → OnOk r ((after ≡ appended archive rest) × IsSome archive) → OnErr r (after ≡ None)
      → next ++ bytes_in after ≡ (lines ++ bytes_in archive) ++ piece
  pushed_bytes (Ok u) archive after whole same ok err =
      more_bytes lines piece next rest archive after whole is rest_is ok.0 ok.1
  pushed_bytes (Err e) archive after whole same ok err = absurd (false≢true same)

-- an intake to which nothing is added
pub appended_nothing : (archive : Option (List ℕ)) (rest : List ℕ) → length rest ≡ 0 → archive ≡ appended archive rest
appended_nothing None rest none = refl
appended_nothing (Some nar) rest none =
    ap Some (sym (append-nil nar) ∙ ap (λ t. nar ++ t) (sym (nil_from_length rest none)))

-- ---- what is made of it

-- a request that has the archive of a body, or is spent
pub made_of : (made : Request) (q : List ℕ → asked.Request) (archive : Option (List ℕ)) (lines body : List ℕ)
    → request_view made ≡ q (bytes_in archive)
    → without_archive (q (rest_of body)) ≡ q [] → is_spent made ≡ is_none archive → IsParted lines archive body
    → IsRequest made (q (rest_of body))
made_of made q None lines body view less spent is = inr (spent, view ∙ sym less)
made_of made q (Some nar) lines body view less spent is = inl (view ∙ ap q (sym is.1))

-- a request that was read of a whole body
pub reads_made : (dir : List ℕ) (kind : Kind) (target body : List ℕ) (r : Result Request AskError)
    → Reads dir kind target body r → Makes dir kind target body r
reads_made dir kind target body (Ok made) is = (request_view made, is, inl refl)
reads_made dir kind target body (Err e) is = is

-- ---- what a prefix says

pub named_all : (dir body : List ℕ) (head : NamedHead) (p : List ℕ) → IsNamedBody dir (prefix_of body) head p
    → IsNamedBody dir body head (rest_of body)
named_all dir body head p is = (is.0, (from_prefix body is.0 p is.1).0, is.2)

pub named_prefix : (dir body : List ℕ) (head : NamedHead) (p : List ℕ) → IsNamedBody dir body head p
    → IsNamedBody dir (prefix_of body) head []
named_prefix dir body head p is = (is.0, (of_prefix body is.0 p is.1).0, is.2)

pub import_all : (dir body : List ℕ) (head : ImportHead) (p : List ℕ) → IsImportBody dir (prefix_of body) head p
    → IsImportBody dir body head (rest_of body)
import_all dir body head p is = (is.0, (from_prefix body is.0 p is.1).0, is.2)

pub import_prefix : (dir body : List ℕ) (head : ImportHead) (p : List ℕ) → IsImportBody dir body head p
    → IsImportBody dir (prefix_of body) head []
import_prefix dir body head p is = (is.0, (of_prefix body is.0 p is.1).0, is.2)

-- A connection as far as it was served.
use Rattle.std.proofs.Common.{◌≡◌, ℕ, ◌+◌, List, [], ◌∷◌, ◌++◌, length, Option, false, refl, sym, ap, ◌∙◌, arith}
use Rattle.std.proofs.Common.{append_assoc, append-nil, length-append, subst}
use Rattle.std.specs.Prelude.{codes, ◌==◌, ◌||◌}
use Rattle.std.specs.List.{list_any}
use Rattle.std.specs.Str.{str_eq_ignore_ascii_case}
use Rattle.std.specs.Io.KnownBytes.{Appends}
use Rattle.httparse.specs.Grammar.{RequestHead}
use Rattle.wire_server.specs.declared.head.Head.{Head}
use Rattle.wire_server.specs.declared.error.Fault.{Fault}
use Rattle.wire_server.specs.Heads.{Holds}
use Rattle.wire_server.specs.Fields.{fields_at, values}
use Rattle.wire_server.specs.Division.{Item, message, faulty, closes}
use Rattle.wire_server.specs.Responses.{Replied, reply_bytes}
use Rattle.wire_server.specs.Serves.{StayOpen, Replies, fault_reply, joined}
use Rattle.wire_server.proofs.Follows.{Follows}

-- what the places of a head say of the connection
pub closes_at : (held : List ℕ) (head : Head) (h : RequestHead) → Holds held head h
    → ((head.spans.version == 0) || list_any (λ v. str_eq_ignore_ascii_case v (codes "close"))
    (values (codes "connection") (fields_at held head))) ≡ closes h
closes_at held head h is =
    ap (λ v. (v == 0) || list_any (λ t. str_eq_ignore_ascii_case t (codes "close"))
    (values (codes "connection") (fields_at held head))) is.places.version
    ∙ ap (λ fs. (h.minor == 0) || list_any (λ t. str_eq_ignore_ascii_case t (codes "close"))
    (values (codes "connection") fs)) is.places.fields

-- the same head in the same buffer, by other names
pub closes_in : (buf held : List ℕ) (places head : Head) (h : RequestHead) → Holds held head h → buf ≡ held
    → places ≡ head
    → ((places.spans.version == 0)
    || list_any (λ v. str_eq_ignore_ascii_case v (codes "close"))
    (values (codes "connection") (fields_at buf places))) ≡ closes h
closes_in buf held places head h is same at = rw (same, at) (closes_at held head h is)

-- ---- the connection

pub stays_more : (done : List Item) (h : RequestHead) (body : List ℕ) → StayOpen done → closes h ≡ false
    → StayOpen (done ++ message h body ∷ [])
stays_more [] h body stays on = (on, tt)
stays_more (message k p ∷ done) h body (is, stays) on = (is, stays_more done h body stays on)
stays_more (faulty fault ∷ done) h body stays on = absurd stays

-- ---- the replies

pub joined_more : (replies : List (List ℕ)) (last : List ℕ) → joined (replies ++ last ∷ []) ≡ joined replies ++ last
joined_more [] last = append-nil last
joined_more (r ∷ replies) last =
    ap (λ t. r ++ t) (joined_more replies last) ∙ sym (append_assoc r (joined replies) last)

pub counted_more : (done : List Item) (item : Item) (n : ℕ) → n ≡ length done → n + 1 ≡ length (done ++ item ∷ [])
counted_more done item n is = omega (arith, length-append done (item ∷ []))

module _ {S : Type 0} (answers : S → RequestHead → List ℕ → Replied → S → Type 0) where
  replies_more : (s mid new : S) (done items : List Item) (before after : List (List ℕ))
      → Replies answers s done before mid → Replies answers mid items after new
      → Replies answers s (done ++ items) (before ++ after) new
  replies_more s mid new [] items [] after first second = subst (λ t. Replies answers t items after new) first second
  replies_more s mid new [] items (r ∷ before) after first second = absurd first
  replies_more s mid new (message h body ∷ done) items [] after first second = absurd first
  replies_more s mid new (faulty fault ∷ done) items [] after first second = absurd first
  replies_more s mid new (message h body ∷ done) items (r ∷ before) after (m, said, answered, is, rest) second =
      (m, said, answered, is, replies_more m mid new done items before after rest second)
  replies_more s mid new (faulty fault ∷ done) items (r ∷ before) after (is, rest) second =
      (is, replies_more s mid new done items before after rest second)

  pub replies_item : (s mid new : S) (done : List Item) (before : List (List ℕ)) (h : RequestHead) (body : List ℕ)
      (r : Replied)
      → Replies answers s done before mid → answers mid h body r new
      → Replies answers s (done ++ message h body ∷ []) (before ++ reply_bytes (closes h) r ∷ []) new
  replies_item s mid new done before h body r first answered =
      replies_more s mid new done (message h body ∷ []) before (reply_bytes (closes h) r ∷ []) first
      (new, r, answered, refl, refl)

  pub replies_fault : (s new : S) (done : List Item) (before : List (List ℕ)) (fault : Fault)
      → Replies answers s done before new
      → Replies answers s (done ++ faulty fault ∷ []) (before ++ fault_reply fault ∷ []) new
  replies_fault s new done before fault first =
      replies_more s new new done (faulty fault ∷ []) before (fault_reply fault ∷ []) first (refl, refl)

  -- a number of items are done: what is left of the input, and what was written
  pub record Reported (input rest output output' : Option (List ℕ)) (held : List ℕ) (old new : S) (n : ℕ) : Type 0 where
    pub done : List Item
    pub replies : List (List ℕ)
    pub counted : n ≡ length done
    pub follows : Follows input rest held done
    pub stays : StayOpen done
    pub answered : Replies answers old done replies new
    pub written : Appends output output' (joined replies)

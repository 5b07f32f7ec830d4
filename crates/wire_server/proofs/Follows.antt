-- What follows the messages that an input begins with.
use Rattle.std.proofs.Common.{◌≡◌, ◌⊎◌, ℕ, ◌+◌, ◌<◌, ◌≤◌, Bool, List, [], ◌∷◌, ◌++◌, length, drop, Option, Some, None}
use Rattle.std.proofs.Common.{true, false, cond, refl, sym, ap, ◌∙◌, arith, inl, inr, append_assoc, append-nil, subst}
use Rattle.std.proofs.Common.{length-append}
use Rattle.std.specs.Prelude.{IfSome}
use Rattle.std.specs.Io.KnownBytes.{Consumes, IsAtEnd}
use Rattle.httparse.specs.Grammar.{RequestHead}
use Rattle.wire_server.specs.declared.head.Head.{Head}
use Rattle.wire_server.specs.declared.error.Fault.{Fault}
use Rattle.wire_server.specs.Messages.{IsMessage, IsFault, EndsInside, AwaitsMore, HoldsLittle, HoldsMessage, ReadsTo}
use Rattle.wire_server.specs.Division.{Item, message, faulty, closes, Divides}
use Rattle.wire_server.specs.Answers.{body_in}
use Rattle.wire_server.specs.Serves.{Begins, DividesAll, BeginsWith, Takes, TakesAll, Awaits, AwaitsAll, StayOpen}
use Rattle.wire_server.proofs.Lines.{little_more}
use Rattle.wire_server.proofs.Whole.{message_of_input}

-- the input begins with these messages, and this follows them
abbrev pub Leads : List ℕ → List Item → List ℕ → Type 0
Leads input [] rest = input ≡ rest
Leads input (message h body ∷ items) rest = (mid : List ℕ) × IsMessage input h body mid × Leads mid items rest
Leads input (faulty fault ∷ items) rest = ⊥

-- What one message in front of an input leaves true, all of these leave true.
module _ (P : List ℕ → List Item → Type 0)
    (extends : (input mid : List ℕ) (h : RequestHead) (body : List ℕ) (items : List Item) → IsMessage input h body mid
    → closes h ≡ false → P mid items → P input (message h body ∷ items)) where
  led : (input rest : List ℕ) (done items : List Item) → StayOpen done → Leads input done rest → P rest items
      → P input (done ++ items)
  led input rest [] items stays same p = subst (λ t. P t items) (sym same) p
  led input rest (message h body ∷ done) items (on, stays) (mid, is, leads) p =
      extends input mid h body (done ++ items) is on (led mid rest done items stays leads p)
  led input rest (faulty fault ∷ done) items stays leads p = absurd leads

-- after a message that leaves the connection open, after one that closes it, and after one of either kind
left_open : (v : Bool) (A B : Type 0) → v ≡ false → B → cond v A B
left_open v A B on b = subst (λ u. cond u A B) (sym on) b

left_closed : (v : Bool) (A B : Type 0) → v ≡ true → A → cond v A B
left_closed v A B last a = subst (λ u. cond u A B) (sym last) a

left_either : (v : Bool) (A B : Type 0) → A → B → cond v A B
left_either true A B a b = a
left_either false A B a b = b

divides_led : (input rest : List ℕ) (done items : List Item) → StayOpen done → Leads input done rest
    → Divides rest items → Divides input (done ++ items)
divides_led = led Divides (λ input mid h body items is on p. (mid, is, left_open _ _ _ on p))

begins_led : (input rest : List ℕ) (done items : List Item) → StayOpen done → Leads input done rest
    → Begins rest items → Begins input (done ++ items)
begins_led = led Begins (λ input mid h body items is on p. (mid, is, left_open _ _ _ on p))

takes_led : (left input rest : List ℕ) (done items : List Item) → StayOpen done → Leads input done rest
    → Takes rest items left → Takes input (done ++ items) left
takes_led left = led (λ input items. Takes input items left) (λ input mid h body items is on p. (mid, is, p))

-- ---- what follows is held, or left of the input, which may show its bytes

abbrev pub Follows : Option (List ℕ) → Option (List ℕ) → List ℕ → List Item → Type 0
Follows None new held done = Unit {0}
Follows (Some all) None held done = ⊥
Follows (Some all) (Some more) held done = Leads all done (held ++ more)

pub follows_start : (old : Option (List ℕ)) → Follows old old [] []
follows_start None = tt
follows_start (Some all) = refl

pub follows_read : (old mid new : Option (List ℕ)) (held bs : List ℕ) (done : List Item) → Follows old mid held done
    → Consumes mid new bs → Follows old new (held ++ bs) done
follows_read None mid new held bs done follows read = tt
follows_read (Some all) None new held bs done follows read = absurd follows
follows_read (Some all) (Some more) None held bs done follows read = absurd read
follows_read (Some all) (Some more) (Some rest) held bs done follows read =
    subst (Leads all done) (ap (λ t. held ++ t) read ∙ sym (append_assoc held bs rest)) follows

few_of_fault : (n : ℕ) (held more : List ℕ) → n ≤ 4095 → ReadsTo n held (Some more)
    → ((more ≡ []) × EndsInside (held ++ more)) ⊎ HoldsLittle 4095 held
few_of_fault n held more small (inl (end, inside)) =
    inl (end, subst EndsInside (sym (ap (λ t. held ++ t) end ∙ append-nil held)) inside)
few_of_fault n held more small (inr little) = inr (little_more n 4095 held small little)

module _ (held : List ℕ) (done : List Item) (stays : StayOpen done) where
  -- ---- no more is answered

  pub begins_open : (old new : Option (List ℕ)) → Follows old new held done → BeginsWith old done
  begins_open None new follows = tt
  begins_open (Some all) None follows = absurd follows
  begins_open (Some all) (Some more) follows =
      subst (Begins all) (append-nil done) (begins_led all (held ++ more) done [] stays follows tt)

  pub divides_end : (old new : Option (List ℕ)) → Follows old new held done → held ≡ [] → IsAtEnd new
      → DividesAll old done
  divides_end None new follows none end = tt
  divides_end (Some all) None follows none end = absurd follows
  divides_end (Some all) (Some more) follows none end =
      subst (Divides all) (append-nil done)
      (divides_led all (held ++ more) done [] stays follows (ap (λ t. t ++ more) none ∙ end))

  pub takes_few : (old new : Option (List ℕ)) → Follows old new held done → length held ≤ 4095 → TakesAll old new done
  takes_few None new follows few = tt
  takes_few (Some all) None follows few = absurd follows
  takes_few (Some all) (Some more) follows few =
      subst (λ items. Takes all items more) (append-nil done)
      (takes_led more all (held ++ more) done [] stays follows (held, refl, few))

  pub awaits_more : (old new : Option (List ℕ)) → Follows old new held done → AwaitsMore held → AwaitsAll old new done
  awaits_more None new follows more = tt
  awaits_more (Some all) None follows more = absurd follows
  awaits_more (Some all) (Some left) follows more =
      subst (λ items. Awaits all items left) (append-nil done)
      (led (λ input items. Awaits input items left) (λ input mid h body items is on p. (mid, is, p)) all
      (held ++ left) done [] stays follows (held, refl, more))

  -- ---- what is held begins with no message

  some_more : (more : List ℕ) → 0 < length held → 0 < length (held ++ more)
  some_more more some = omega (arith, length-append held more)

  module _ (fault : Fault) where
    pub divides_fault : (old new : Option (List ℕ)) → Follows old new held done → 0 < length held
        → IfSome new (λ more. IsFault (held ++ more) fault) → DividesAll old (done ++ faulty fault ∷ [])
    divides_fault None new follows some is = tt
    divides_fault (Some all) None follows some is = absurd follows
    divides_fault (Some all) (Some more) follows some is =
        divides_led all (held ++ more) done (faulty fault ∷ []) stays follows (some_more more some, is, refl)

    pub begins_fault : (old new : Option (List ℕ)) → Follows old new held done → 0 < length held
        → IfSome new (λ more. IsFault (held ++ more) fault) → BeginsWith old (done ++ faulty fault ∷ [])
    begins_fault None new follows some is = tt
    begins_fault (Some all) None follows some is = absurd follows
    begins_fault (Some all) (Some more) follows some is =
        begins_led all (held ++ more) done (faulty fault ∷ []) stays follows (some_more more some, is, refl)

    pub takes_fault : (old new : Option (List ℕ)) → Follows old new held done → (n : ℕ) → n ≤ 4095
        → ReadsTo n held new → TakesAll old new (done ++ faulty fault ∷ [])
    takes_fault None new follows n small near = tt
    takes_fault (Some all) None follows n small near = absurd follows
    takes_fault (Some all) (Some more) follows n small near =
        takes_led more all (held ++ more) done (faulty fault ∷ []) stays follows
        (held, refl, few_of_fault n held more small near)

  -- ---- what is held begins with a message

  module _ (head : Head) (size : ℕ) (h : RequestHead) (is : HoldsMessage held head size h) where
    pub divides_last : (old new : Option (List ℕ)) → Follows old new held done → closes h ≡ true
        → DividesAll old (done ++ message h (body_in held head size) ∷ [])
    divides_last None new follows last = tt
    divides_last (Some all) None follows last = absurd follows
    divides_last (Some all) (Some more) follows last =
        divides_led all (held ++ more) done (message h (body_in held head size) ∷ []) stays follows
        (_, message_of_input held more head size h is, left_closed (closes h) _ _ last refl)

    pub begins_item : (old new : Option (List ℕ)) → Follows old new held done
        → BeginsWith old (done ++ message h (body_in held head size) ∷ [])
    begins_item None new follows = tt
    begins_item (Some all) None follows = absurd follows
    begins_item (Some all) (Some more) follows =
        begins_led all (held ++ more) done (message h (body_in held head size) ∷ []) stays follows
        (_, message_of_input held more head size h is, left_either (closes h) _ _ refl tt)

    pub takes_item : (old new : Option (List ℕ)) → Follows old new held done
        → length (drop (head.spans.len + size) held) ≤ 4095
        → TakesAll old new (done ++ message h (body_in held head size) ∷ [])
    takes_item None new follows few = tt
    takes_item (Some all) None follows few = absurd follows
    takes_item (Some all) (Some more) follows few =
        takes_led more all (held ++ more) done (message h (body_in held head size) ∷ []) stays follows
        (_, message_of_input held more head size h is, (_, refl, few))

    pub follows_more : (old new : Option (List ℕ)) → Follows old new held done
        → Follows old new (drop (head.spans.len + size) held) (done ++ message h (body_in held head size) ∷ [])
    follows_more None new follows = tt
    follows_more (Some all) None follows = absurd follows
    follows_more (Some all) (Some more) follows =
        led (λ input items. Leads input items (drop (head.spans.len + size) held ++ more))
        (λ input mid h body items is on p. (mid, is, p)) all (held ++ more) done
        (message h (body_in held head size) ∷ []) stays follows (_, message_of_input held more head size h is, refl)

-- What is seen of a store that is served: the worlds that its tables describe, and no more than the replies.
use Rattle.std.specs.Prelude.{⊤}
use Rattle.std.specs.declared.io.Error.{Error}
use Rattle.std.proofs.Common.{◌≡◌, ℕ, List, Option, Result, None, refl, sym, ap, subst, inl, inr}
use Rattle.sqlite_trees.specs.declared.store.Store.{Ghosts}
use Rattle.httparse.specs.Grammar.{RequestHead}
use Rattle.sqlite.specs.State.{HasCleanDisk}
use Rattle.sqlite.specs.Held.{state}
use Rattle.policy.specs.Settings.{Settings}
use Rattle.model.specs.World.{World}
use Rattle.tables_writes.specs.TablesValue.{HasWorld}
use Rattle.tables_writes.proofs.AfterWrites.{clean_before}
use Rattle.store.specs.View.{StoreView}
use Rattle.store.proofs.Clean.{step_clean}
use Rattle.wire_server.specs.Responses.{Replied}
use Rattle.wire.specs.Courses.{Course, replies, calls, HasCourse}
use Rattle.wire.specs.Answers.{Answers, Ends}
use Rattle.wire_server.specs.declared.error.WireError.{WireError}
use Rattle.wire_server.specs.Serves.{Served}
use Rattle.wire_server.specs.Sessions.{result_of}
use Rattle.wire_server.proofs.Seen.{served_seen, serves_on_seen}
use Rattle.wire.specs.Worlds.{AnswersFrom, AnswersSome, LeadsWorlds}
use Rattle.report.specs.Outputs.{Console}
use Rattle.wire.specs.Ends.{ServesStreams, ServesPort, ServesAny, ServesOver}
use Rattle.wire.specs.Ends.{ServesPortByWorlds, ServesStreamsByWorlds}

module _ {S : Type 0} (g : Ghosts S) where
  -- tables that describe a world, under these settings
  abbrev pub IsAt : Settings → StoreView S → World → Type 0
  IsAt s st w = HasWorld g st.tables w × (st.settings ≡ s)

  abbrev pub IsClean : StoreView S → Type 0
  IsClean st = HasCleanDisk (state g st.tables.connection)

  step_from : (old new : StoreView S) (w : World) (h : RequestHead) (body : List ℕ) (r : Replied) (course : Course)
      → HasWorld g old.tables w
      → HasCourse old.settings h body course → Ends g course old r new
      → (next : World) × IsAt old.settings new next
      × (IsClean new → IsClean old × AnswersFrom old.settings w h body r next)
  step_from old new w h body r (replies it) reported takes (is, stays) = (
    w,
    (subst (λ st. HasWorld g st.tables w) (sym stays) reported, ap (λ st. st.settings) stays),
    λ clean. (subst IsClean stays clean, (replies it, takes, (is, refl))),
  )
  step_from old new w h body r (calls c q) reported takes (reply, is, said) =
      let one = is.step w reported in (
        one.0,
        (one.2, is.settings),
        λ clean.
            let step = step_clean (IsClean new) old.settings w c q reply one.0 (λ _. clean) one.1 in
            (clean_before _ _ _ (is.survives w reported) clean, (calls c q, takes, (reply, step, said))),
      )

  answer_from : (s : Settings) (old : StoreView S) (w : World) (h : RequestHead) (body : List ℕ) (r : Replied)
      (new : StoreView S) → IsAt s old w → Answers g old h body r new
      → (next : World) × IsAt s new next × (IsClean new → IsClean old × AnswersFrom s w h body r next)
  answer_from s old w h body r new (reported, same) (course, takes, ends) =
      subst (λ t. (next : World) × IsAt t new next × (IsClean new → IsClean old × AnswersFrom t w h body r next)) same
      (step_from old new w h body r course reported takes ends)

  -- no more than the settings
  abbrev pub IsUnder : Settings → StoreView S → Unit {0} → Type 0
  IsUnder s st none = st.settings ≡ s

  -- of any store
  abbrev pub IsAny : StoreView S → Type 0
  IsAny st = Unit {0}

  step_some : (old new : StoreView S) (h : RequestHead) (body : List ℕ) (r : Replied) (course : Course)
      → HasCourse old.settings h body course → Ends g course old r new
      → (next : Unit {0}) × IsUnder old.settings new next
      × (IsAny new → IsAny old × AnswersSome old.settings tt h body r next)
  step_some old new h body r (replies it) takes (is, stays) =
      (tt, ap (λ st. st.settings) stays, λ _. (tt, (replies it, takes, is)))
  step_some old new h body r (calls c q) takes (reply, is, said) =
      (tt, is.settings, λ _. (tt, (calls c q, takes, (reply, said))))

  answer_some : (s : Settings) (old : StoreView S) (none : Unit {0}) (h : RequestHead) (body : List ℕ) (r : Replied)
      (new : StoreView S) → IsUnder s old none
      → Answers g old h body r new → (next : Unit {0}) × IsUnder s new next
      × (IsAny new → IsAny old × AnswersSome s none h body r next)
  answer_some s old none h body r new same (course, takes, ends) =
      subst (λ t. (next : Unit {0}) × IsUnder t new next × (IsAny new → IsAny old × AnswersSome t tt h body r next))
      same (step_some old new h body r course takes ends)

  module _ (old new : StoreView S) (known left out out' : Option (List ℕ)) (result : Result ℕ WireError)
      (served : Served (Answers g) known left out out' old new result) where
    pub served_from : LeadsWorlds g old new
        (λ w next. Served (AnswersFrom old.settings) known left out out' w next result)
    served_from w reported =
        let more =
        served_seen (Answers g) (AnswersFrom old.settings) (IsAt old.settings) IsClean (answer_from old.settings)
        known left out out' old w new result (reported, refl) served in
        (more.0, more.1.0, λ clean. (more.2 clean).1)

    pub served_some : Served (AnswersSome old.settings) known left out out' tt tt result
    served_some =
        let more =
        served_seen (Answers g) (AnswersSome old.settings) (IsUnder old.settings) IsAny (answer_some old.settings)
        known left out out' old tt new result refl served in
        (more.2 tt).1

    pub served_settings : new.settings ≡ old.settings
    served_settings =
        (served_seen (Answers g) (AnswersSome old.settings) (IsUnder old.settings) IsAny (answer_some old.settings)
        known left out out' old tt new result refl served).1

  module _ (old new : StoreView S) (n : ℕ) (err err' : Option (List ℕ)) (result : Result ℕ Error)
      (served : ServesAny (Answers g) n err err' old new result) where
    serves_from : LeadsWorlds g old new (λ w next. ServesAny (AnswersFrom old.settings) n err err' w next result)
    serves_from w reported =
        let more =
        serves_on_seen (Answers g) (AnswersFrom old.settings) (IsAt old.settings) IsClean (answer_from old.settings)
        None None None None None None err err' old w new (reported, refl) (λ _. ⊤) n None None result served in
        (more.0, more.1.0, λ clean. (more.2 clean).1)

    serves_some : (new.settings ≡ old.settings) × ServesAny (AnswersSome old.settings) n err err' tt tt result
    serves_some =
        let more =
        serves_on_seen (Answers g) (AnswersSome old.settings) (IsUnder old.settings) IsAny
        (answer_some old.settings) None None None None None None err err' old tt new refl (λ _. ⊤) n None None result
        served in
        (more.1, (more.2 tt).1)

  -- over connections that come one after another the settings stay
  pub over_settings : (old new : StoreView S) (n : ℕ) (err err' : Option (List ℕ)) (result : Result ℕ Error)
      → ServesOver (Answers g) n err err' old new result → new.settings ≡ old.settings
  over_settings old new n err err' result (inl served) = (serves_some old new n err err' result served).0
  over_settings old new n err err' result (inr (fault, same, kept)) = ap (λ st. st.settings) same

  pub over_from : (old new : StoreView S) (n : ℕ) (err err' : Option (List ℕ)) (result : Result ℕ Error)
      → ServesOver (Answers g) n err err' old new result
      → LeadsWorlds g old new (λ w next. ServesOver (AnswersFrom old.settings) n err err' w next result)
  over_from old new n err err' result (inl served) w reported =
      let more = serves_from old new n err err' result served w reported in
      (more.0, more.1, λ clean. inl (more.2 clean))
  over_from old new n err err' result (inr (fault, same, kept)) w reported =
      (w, subst (λ st. HasWorld g st.tables w) (sym same) reported, λ clean. inr (fault, refl, kept))

  module _ (old new : StoreView S) (c : Console) (served : ServesStreams (Answers g) c old new) where
    pub streams_steps : ServesStreamsByWorlds g c old new
    streams_steps = elim served [
      | inl lacks ↦ inl lacks
      | inr (end, is, says, ends) ↦ inr
          (end, (is, served_from old new c.input.old _ _ _ (result_of end) is), says, ends)
    ]

    pub streams_from : LeadsWorlds g old new (ServesStreams (AnswersFrom old.settings) c)
    streams_from w reported = elim served [
      | inl (lacks, kept, same) ↦
          (w, subst (λ st. HasWorld g st.tables w) (sym same) reported, λ clean. inl (lacks, kept, refl))
      | inr (end, is, says, ends) ↦
          let more = served_from old new c.input.old _ _ _ (result_of end) is w reported in
          (more.0, more.1, λ clean. inr (end, more.2 clean, says, ends))
    ]

    pub streams_some : ServesStreams (AnswersSome old.settings) c tt tt
    streams_some = elim served [
      | inl (lacks, kept, same) ↦ inl (lacks, kept, refl)
      | inr (end, is, says, ends) ↦ inr
          (end, served_some old new c.input.old _ _ _ (result_of end) is, says, ends)
    ]

  module _ (old new : StoreView S) (n : ℕ) (err err' : Option (List ℕ)) (status : ℕ)
      (served : ServesPort (Answers g) n err err' old new status) where
    pub port_steps : ServesPortByWorlds g n err err' old new status
    port_steps = elim served [
      | inl lacks ↦ inl lacks
      | inr (inl taken) ↦ inr (inl taken)
      | inr (inr (result, said, is, ends)) ↦ inr
          (inr (result, said, (is, serves_from old new n err said result is), ends))
    ]

    pub port_from : LeadsWorlds g old new (λ w next. ServesPort (AnswersFrom old.settings) n err err' w next status)
    port_from w reported = elim served [
      | inl (lacks, same) ↦
          (w, subst (λ st. HasWorld g st.tables w) (sym same) reported, λ clean. inl (lacks, refl))
      | inr (inl (taken, same)) ↦
          (w, subst (λ st. HasWorld g st.tables w) (sym same) reported, λ clean. inr (inl (taken, refl)))
      | inr (inr (result, said, is, ends)) ↦
          let more = serves_from old new n err said result is w reported in
          (more.0, more.1, λ clean. inr (inr (result, said, more.2 clean, ends)))
    ]

    pub port_some : ServesPort (AnswersSome old.settings) n err err' tt tt status
    port_some = elim served [
      | inl (lacks, same) ↦ inl (lacks, refl)
      | inr (inl (taken, same)) ↦ inr (inl (taken, refl))
      | inr (inr (result, said, is, ends)) ↦ inr
          (inr (result, said, (serves_some old new n err said result is).1, ends))
    ]

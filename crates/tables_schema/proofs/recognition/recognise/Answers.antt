use Rattle.tables_schema.proofs.recognition.recognise.Goals as goal

pub returns-then-has_tables-clause-second : goal.returns-then-has_tables-clause-second
returns-then-has_tables-clause-second c =
    let has = c.has_tables.ensures.0 c.if-has_tables.true in (
      λ e. let further = c.by_further.ensures.second.0 e in
          (has, further.0, further.1, further.2),
      λ all. c.by_further.ensures.second.1 (all.1, all.2, all.3),
    )

pub returns-then-has_tables-clause-third : goal.returns-then-has_tables-clause-third
returns-then-has_tables-clause-third c =
    let has = c.has_tables.ensures.0 c.if-has_tables.true in (
      λ e. let further = c.by_further.ensures.third.0 e in
          (has, further.0, further.1),
      λ all. c.by_further.ensures.third.1 (all.1, all.2),
    )

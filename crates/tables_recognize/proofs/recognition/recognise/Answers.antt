use Rattle.tables_recognize.proofs.recognition.recognise.Goals as goal

pub returns-clause-first : goal.returns-clause-first
returns-clause-first g c = rw c.schema.ensures.value at c.recognise.ensures.first

pub returns-clause-second : goal.returns-clause-second
returns-clause-second g c = rw c.schema.ensures.value at c.recognise.ensures.second

pub returns-clause-third : goal.returns-clause-third
returns-clause-third g c = rw c.schema.ensures.value at c.recognise.ensures.third

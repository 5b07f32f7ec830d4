use Rattle.std.proofs.Common.{◌≡◌, ℕ, List, None, IsTrue, subst, ap, sym, ◌∙◌}
use Rattle.sqlite.specs.State.{HasCleanDisk}
use Rattle.sqlite.specs.Held.{state}
use Rattle.sqlite.specs.Steps.{over_memory}
use Rattle.sqlite.proofs.Callers.{memory_is_clean}
use Rattle.sqlite_trees.specs.declared.memory.MemStore.{MemStore}
use Rattle.model.specs.World.{no_world}
use Rattle.tables_writes.specs.TablesValue.{TablesValue, HasWorld}
use Rattle.tables_sql.specs.declared.failure.Failed.TheVariants.{Memory}
use Rattle.tables_sql.proofs.TestFailures.{passed_on}
use Rattle.tables_make.specs.NewTables.{IsMade}
use Rattle.paths.specs.Names.{is_store_dir}
use Rattle.tables.proofs.Made.{made_agrees, made_reports, memory_only}
use Rattle.tables.proofs.memory.open_in_memory.Goals as goal

pub over-requires : goal.over-requires
over-requires c =
    let new = state over_memory c.make.new.conn in
    let old = state over_memory c.in_ok-connection.connection in
    let same : c.as_str.result.now ≡ c.in_ok-kept.kept = c.as_str.ensures.value ∙ sym c.in_ok-kept.ensures.cases in
    let valid : IsTrue (is_store_dir c.in_ok-kept.kept) =
    ap is_store_dir c.in_ok-kept.ensures.cases ∙ c.as_str.ensures.valid in
    let made : HasCleanDisk new → IsMade c.in_ok-kept.kept old new =
    λ clean. subst (λ (d : List ℕ). IsMade d old new) same (c.in_ok-make.ensures.done clean) in
    made_agrees over_memory c.make.new.conn old c.in_ok-kept.kept c.new-outline.result valid c.new-outline.ensures made
    c.make.ensures.idle

pub returns-clause-reported : goal.returns-clause-reported
returns-clause-reported c =
    let new = state over_memory c.make.new.conn in
    let old = state over_memory c.in_ok-connection.connection in
    let same : c.as_str.result.now ≡ c.in_ok-kept.kept = c.as_str.ensures.value ∙ sym c.in_ok-kept.ensures.cases in
    let valid : IsTrue (is_store_dir c.in_ok-kept.kept) =
    ap is_store_dir c.in_ok-kept.ensures.cases ∙ c.as_str.ensures.valid in
    let made : HasCleanDisk new → IsMade c.in_ok-kept.kept old new =
    λ clean. subst (λ (d : List ℕ). IsMade d old new) same (c.in_ok-make.ensures.done clean) in
    subst (λ (t : TablesValue MemStore). HasWorld over_memory t no_world) (sym c.over.ensures)
    (made_reports over_memory c.make.new.conn old c.in_ok-kept.kept c.new-outline.result valid c.new-outline.ensures
    made)

pub returns-clause-unlimited : goal.returns-clause-unlimited
returns-clause-unlimited c =
    subst (λ (t : TablesValue MemStore). t.connection.step_limit ≡ None) (sym c.over.ensures)
    (c.make.ensures.survives.limit ∙ c.in_ok-connection.ensures.fresh.unlimited)

pub returns-in_err-make-clause-cause : goal.returns-in_err-make-clause-cause
returns-in_err-make-clause-cause c =
    let valid : IsTrue (is_store_dir c.as_str.result.now) =
    ap is_store_dir c.as_str.ensures.value ∙ c.as_str.ensures.valid in
    let why =
    memory_only c.in_ok-connection.connection c.make.new.conn c.as_str.result.now valid
    c.in_ok-connection.ensures.empty c.in_ok-connection.ensures.fresh
    c.in_err-make.field-0.0 (c.in_err-make.ensures.cause (memory_is_clean c.make.new.conn)) in
    passed_on c.from_residual-in_err-make.result c.in_err-make.field-0.0 (λ failure. failure ≡ Memory)
    c.from_residual-in_err-make.ensures.1 why

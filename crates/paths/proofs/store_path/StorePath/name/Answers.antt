use Rattle.std.proofs.Common.{◌≡◌, true, take, ap, ◌∙◌, lit<}
use Rattle.std.proofs.lemmas.Str.Pattern.{split_after}
use Rattle.paths.specs.Names.{is_store_name}
use Rattle.paths.specs.StorePath.{is_base_name, name_of}
use Rattle.paths.proofs.PathText.{base-name, base-no_dash, base-parts}
use Rattle.paths.proofs.store_path.StorePath.name.Goals as goal

pub unreachable-requires : goal.unreachable-requires
unreachable-requires c =
    let bs = c.deref.result.now in
    let base : is_base_name bs ≡ true = ap is_base_name c.deref.ensures.value ∙ c.self.invariant in
    let split =
    split_after 45 bs (take 32 bs) (name_of bs) c.split_once.result c.split_once.ensures.cases (lit< tt)
    (base-parts bs base) (λ i h. base-no_dash bs i base h) in
    rw c.in-None.is at split

pub returns-clause-value : goal.returns-clause-value
returns-clause-value c =
    let bs = c.deref.result.now in
    let base : is_base_name bs ≡ true = ap is_base_name c.deref.ensures.value ∙ c.self.invariant in
    let split =
    split_after 45 bs (take 32 bs) (name_of bs) c.split_once.result c.split_once.ensures.cases (lit< tt)
    (base-parts bs base) (λ i h. base-no_dash bs i base h) in
    (rw c.in-Some.is at split).1 ∙ ap name_of (c.deref.ensures.value ∙ c.self.view_is)

pub returns-clause-valid : goal.returns-clause-valid
returns-clause-valid c =
    let bs = c.deref.result.now in
    let base : is_base_name bs ≡ true = ap is_base_name c.deref.ensures.value ∙ c.self.invariant in
    let split =
    split_after 45 bs (take 32 bs) (name_of bs) c.split_once.result c.split_once.ensures.cases (lit< tt)
    (base-parts bs base) (λ i h. base-no_dash bs i base h) in
    ap is_store_name (rw c.in-Some.is at split).1 ∙ base-name bs base

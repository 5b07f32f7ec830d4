use Rattle.std.proofs.Common.{◌≡◌, ◌++◌, ap, subst, ◌∙◌}
use Rattle.wire_requests.specs.Kept.{bytes_of}
use Rattle.wire_requests.specs.Reads.{ReadsImport}
use Rattle.wire_requests.proofs.adds.import_body.Goals as goal

pub returns : goal.returns
returns c =
    let all : bytes_of c.take.new.self ≡ c.args.body.now =
    c.in_ok-take.ensures ∙ ap (λ parted. bytes_of parted ++ c.args.body.now) c.new-parted.ensures in
    subst (λ body. ReadsImport c.args.dir.now body c.read_import.result) all c.read_import.ensures.whole

use Rattle.std.proofs.Common.{◌≡◌, ◌++◌, ap, arith, length, length-append}
use Rattle.std.proofs.KnownBytes.{Consumes-trans}
use Rattle.std.proofs.lemmas.Result.{err_from_is_err_and}
use Rattle.wire_server.specs.declared.error.WireError.TheVariants.{Read}
use Rattle.wire_server.proofs.Came.{grows_more}
use Rattle.wire_server.proofs.keeper.keep_out.Goals as goal

pub returns-in_err-count : goal.returns-in_err-count
returns-in_err-count g c =
    let before = c.reads.invariant in
    let got = c.in_err-count.ensures in
    let p = err_from_is_err_and c.from_residual.result c.from_residual.ensures.1 in
    rw (p.1, p.2) (record {
      read = before.0 ++ got.0.0;
      came =
          record {
            consumed = Consumes-trans _ _ _ before.0 got.0.0 before.1 got.0.1;
            whole = λ e. absurd cc;
            short = λ e. absurd cc;
          };
      kept = λ e. absurd cc;
      missing = λ e.
          let is : c.in_err-count.field-0.0 ≡ Read = cc in
          let none = ap length (got.0.2 is) in
          omega (arith, length-append before.0 got.0.0, before.2, none, c.reads-test.true);
      fault = got.1;
    })

pub reads-preserved : goal.reads-preserved
reads-preserved g c =
    let before = c.reads.invariant in
    let got = c.in_ok-count.ensures in (
      before.0 ++ got.0,
      Consumes-trans _ _ _ before.0 got.0 before.1 got.1,
      omega (arith, length-append before.0 got.0, before.2, got.2, got.3),
      grows_more (g.K.Keeper.represents c.args.body.now) (g.K.Keeper.represents c.reads.body)
          (g.K.Keeper.represents c.keep_next.new.body) before.0 got.0 before.3 got.5,
    )

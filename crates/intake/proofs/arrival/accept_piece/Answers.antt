use Rattle.std.proofs.Common.{◌≡◌, ◌++◌}
use Rattle.sha2.specs.Hashers.{Holds256}
use Rattle.intake.specs.Arrival.{MayHold}
use Rattle.intake.specs.Contents.{contents_so_far}
use Rattle.intake.proofs.Hashing.{with_more, renamed}
use Rattle.intake.proofs.arrival.accept_piece.Goals as goal

pub returns-clause-accepted : goal.returns-clause-accepted
returns-clause-accepted c = λ has.
    let bytes = c.args.pieces.now in
    let piece = c.args.piece.now in
    let all = c.push.new.self in
    let is : all ≡ bytes ++ piece = c.in_ok-push.ensures.ok in
    let before =
    with_more (Holds256 c.args.hasher.now) bytes piece all c.len-whole.result is c.len-whole.ensures has.hashed in
    let contents_before =
    with_more (λ b. MayHold c.args.contents.now (contents_so_far b)) bytes piece all c.len-whole.result is
    c.len-whole.ensures has.contents_hashed in
    rw is (record {
      fed = c.feed.ensures.fed bytes has.fed;
      sound = c.in_ok-feed.ensures.sound;
      hashed =
          renamed (Holds256 c.hash_pieces.new.hasher) (bytes ++ piece) all c.len-now.result is c.len-now.ensures
          (c.hash_pieces.ensures before);
      contents_hashed =
          renamed (λ b. MayHold c.hash_asked.new.contents (contents_so_far b)) (bytes ++ piece) all c.len-now.result is
          c.len-now.ensures (c.hash_asked.ensures contents_before);
    })

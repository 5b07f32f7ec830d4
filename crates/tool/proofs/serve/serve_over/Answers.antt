use Rattle.std.proofs.Common.{None, ap, refl}
use Rattle.std.proofs.KnownBytes.{Keeps-refl}
use Rattle.tool.specs.Requests.{most_served}
use Rattle.tool.proofs.Reading.{unread_within, within_same}
use Rattle.tool.proofs.serve.serve_over.Goals as goal

pub returns-in-Port : goal.returns-in-Port
returns-in-Port g c = record {
  given = record {
    answer = rw c.in-Port.is (
      (Keeps-refl (g.W.Write.contents c.args.console.now.output.now), c.serve_port.ensures.steps),
      λ w reported.
          let more = c.serve_port.ensures.worlds w reported in (
            more.0,
            more.1,
            λ clean. (Keeps-refl (g.W.Write.contents c.args.console.now.output.now), more.2 clean),
          ),
    );
    reads =
        unread_within (most_served c.args.arguments) (g.R.Read.remaining c.args.console.now.input.now);
  };
  same = (refl, refl, refl);
}

pub returns-in-Streams : goal.returns-in-Streams
returns-in-Streams g c = record {
  given = record {
    answer =
        rw c.in-Streams.is (c.serve_streams.ensures.steps, λ w reported. c.serve_streams.ensures.worlds w reported);
    reads = within_same (most_served c.args.arguments) None _ _ (ap most_served c.in-Streams.is) tt;
  };
  same = (refl, refl, refl);
}

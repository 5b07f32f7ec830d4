-- What becomes of a request that no rule forbids.
use Rattle.std.specs.Prelude.{◌≡◌, Some, None, Result, Ok, Err}
use Rattle.policy.specs.Settings.{Settings}
use Rattle.policy.specs.Caller.{Caller}
use Rattle.model.specs.World.{World}
use Rattle.tables_outline.specs.Outline.{OutlineValue, outline_of}
use Rattle.model.specs.Request.{Request}
use Rattle.model.specs.Tests.{refusal}
use Rattle.model.specs.Effects.{effect}
use Rattle.model.specs.Answers.{answer}
use Rattle.tables_sql.specs.declared.failure.Failed.TheVariants.{Memory}
use Rattle.store_types.specs.declared.replies.Answer.{Answer}
use Rattle.store_types.specs.declared.replies.Stop.{Stop}
use Rattle.store_types.specs.declared.replies.Stop.TheVariants.{Refused, Failed}
use Rattle.store_types.specs.View.{answer_view}

-- A request that needs no disk: the answer and the effect if no test fails; the refusal of the first test that fails;
-- or out of memory, and nothing changes.
abbrev pub Meets : Settings → World → Caller → Request → Result Answer Stop → World → Type 0
Meets s w c q (Ok a) new = (refusal s w q ≡ None) × (answer_view a ≡ answer s w c q) × (new ≡ effect s w q)
Meets s w c q (Err (Refused r)) new = (refusal s w q ≡ Some r) × (new ≡ w)
Meets s w c q (Err (Failed f)) new = (f ≡ Memory) × (new ≡ w)

-- a request that changes nothing, in each world of an outline
abbrev pub Reads : Settings → Caller → OutlineValue → Request → Result Answer Stop → Type 0
Reads s c o q r = (w : World) → outline_of w ≡ o → Meets s w c q r w

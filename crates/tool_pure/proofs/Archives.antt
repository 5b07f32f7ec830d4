-- The answer for a prefix of an input that may be an archive.
use Rattle.std.proofs.Common.{◌≡◌, ℕ, ◌≤◌, List, length, take, codes, Result, Ok, Err, ap, refl, sym, arith, take_all}
use Rattle.std.proofs.Common.{length-take, ◌∙◌}
use Rattle.std.specs.Prelude.{IfOk}
use Rattle.nar.specs.declared.error.NarError.{NarError}
use Rattle.nar.specs.Tree.{Tree}
use Rattle.nar.specs.Outcome.{outcome_of}
use Rattle.nar.specs.Listing.{listing}
use Rattle.nar.proofs.Prefixes.{outcome_prefix}
use Rattle.tool_pure.specs.declared.stops.Stop.{Stop}
use Rattle.tool_pure.specs.Archive.{by_outcome, ls_answer}
use Rattle.report.specs.Replies.{path_line}
use Rattle.tool_pure.specs.Object.{source_path_answer}
use Rattle.paths.specs.Path.{source_path}

-- the listing is that of the prefix
pub ls_prefix : (all : List ℕ) → ls_answer (take 16777224 all) ≡ ls_answer all
ls_prefix all = ap (λ r. by_outcome r (listing (codes "."))) (outcome_prefix all)

module _ (dir name : List ℕ) (refs : List (List ℕ)) (all prefix : List ℕ) (e : prefix ≡ take 16777224 all) where
  refused_so : (stop : Stop) (r : Result Tree NarError) → outcome_of prefix ≡ r
      → Err stop ≡ source_path_answer dir name refs prefix
      → Err stop ≡ source_path_answer dir name refs all
  refused_so stop (Ok t) h is =
      let found : Err stop ≡ Ok (path_line dir (source_path dir name refs prefix)) =
      is ∙ ap (λ r. by_outcome r (λ tree. path_line dir (source_path dir name refs prefix))) h in cc
  refused_so stop (Err f) h is =
      is ∙ ap (λ r. by_outcome r (λ tree. path_line dir (source_path dir name refs prefix))) h
      ∙ sym (ap (λ r. by_outcome r (λ tree. path_line dir (source_path dir name refs all)))
      (sym (ap outcome_of e ∙ outcome_prefix all) ∙ h))

  -- a result by a prefix, which is within the limit if it is an archive
  pub source_prefix : (r : Result (List ℕ) Stop) → IfOk r (λ line. length prefix ≤ 16777216)
      → r ≡ source_path_answer dir name refs prefix
      → r ≡ source_path_answer dir name refs all
  source_prefix (Ok line) fits is =
      let cut : length prefix ≡ length (take 16777224 all) = ap length e in
      let whole : prefix ≡ all = e ∙ take_all 16777224 all (omega (arith, length-take 16777224 all)) in
      is ∙ ap (source_path_answer dir name refs) whole
  source_prefix (Err stop) fits is = refused_so stop (outcome_of prefix) refl is

use Rattle.std.proofs.Common.{◌≡◌, ℕ, List, Option, Some, Bor, sym, subst}
use Rattle.policy.specs.Settings.{Settings}
use Rattle.tool_words.specs.Asked.{optional_text}
use Rattle.report.specs.Outputs.{Console}
use Rattle.tool.specs.Works.{DoesAtPath, DoesWith, Doing, OnStore}
use Rattle.tool.proofs.stores.with_tables.Goals as goal

-- work over the file at a path is that over the file that is named
named : (of_file : Doing) (path : Bor (List ℕ)) (db : Option (Bor (List ℕ))) → db ≡ Some path → (s : Settings)
    (d : OnStore) (console : Console) → DoesAtPath of_file path.now s d console
    → DoesWith of_file (optional_text db) s d console
unfolding DoesWith
named of_file path db is s d console done =
    subst (λ (name : Option (Bor (List ℕ))). DoesWith of_file (optional_text name) s d console) (sym is) done

pub returns-in-Some : goal.returns-in-Some
returns-in-Some g c = record {
  given = record {
    answer =
        λ d is. named _ c.in-Some.path c.args.db c.in-Some.is c.args.config d _ (c.in_file.ensures.given.answer d is);
    reads = c.in_file.ensures.given.reads;
  };
  same = c.in_file.ensures.same;
}

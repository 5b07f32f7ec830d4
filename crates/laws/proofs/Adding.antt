-- What an add gains.
use Rattle.std.proofs.Common.{◌≡◌, ℕ, List, Bool, true, false, refl, sym, ap, ◌∙◌, IsTrue, subst}
use Rattle.std.specs.Prelude.{Contains, if◌then◌else◌}
use Rattle.std.specs.Ordering.{eq_by_cmp, is_eq}
use Rattle.std.specs.Cmp.{tied_itself}
use Rattle.std.specs.Cmp.Lexicographic.{nat_list_cmp_total}
use Rattle.std.specs.FinMap as finite
use Rattle.std.proofs.lemmas.Bool.{false≢true}
use Rattle.paths.specs.Root.{bytes_cmp, set_of}
use Rattle.live.proofs.Members.{any_from}
use Rattle.live.proofs.Order.{contains_key-set_of}
use Rattle.policy.specs.Settings.{Settings}
use Rattle.policy.specs.Caller.{Caller}
use Rattle.model.specs.World.{Path, World, has}
use Rattle.model.specs.Request.{Imported, Request, add_text, add_source, import_object}
use Rattle.model.specs.Reply.{path, done, denied, refused, failed}
use Rattle.model.specs.Adds.{Added, added_at, added_import, text_archive}
use Rattle.model.specs.Answers.{answer}
use Rattle.model.specs.Effects.{with_object, effect}
use Rattle.laws.specs.Changes.{Submitted, with_text, with_source, with_import, IsAsSubmitted, Gains, AddsExactly}
use Rattle.model.proofs.MapMembers.{bytes_antisymmetric, set_member}
use Rattle.laws.proofs.Changed.{at_inserted, next_to_inserted}

added_of : List ℕ → Submitted → Added
added_of dir a = added_at dir a.path a.references a.deriver a.ca a.nar

in_set : (refs : List Path) (r : Path) → Contains refs r → IsTrue (finite.contains_key (set_of bytes_cmp refs) r)
in_set refs r c =
    contains_key-set_of nat_list_cmp_total refs r
    ∙ any_from (eq_by_cmp bytes_cmp r) refs r c (ap is_eq (tied_itself nat_list_cmp_total r))

as_passed : (dir : List ℕ) (a : Submitted) → IsAsSubmitted dir a (added_of dir a).object
unfolding added_of
as_passed dir a = record {
  nar = refl;
  references =
      λ r. (λ c. set_member nat_list_cmp_total bytes_antisymmetric a.references r c, λ c. in_set a.references r c);
  deriver = refl;
  ca = refl;
  outputs = refl;
}

pub import_as_passed : (dir : List ℕ) (i : Imported) → IsAsSubmitted dir (with_import i) (added_import dir i).object
unfolding added_of
import_as_passed dir i = as_passed dir (with_import i)

gained : (dir : List ℕ) (a : Submitted) (w : World) → Gains dir a w (with_object w (added_of dir a))
unfolding added_of
gained dir a w = by (has w a.path) refl
  where
    by : (b : Bool) → has w a.path ≡ b
        → Gains dir a w (if b then w else record w { objects = finite.insert w.objects a.path (added_of dir a).object })
    by true e = record {
      present = λ h. refl;
      fresh = λ h. absurd (false≢true (sym h ∙ e));
      others = λ p other. refl;
      roots = record { permanent = refl; user_roots = refl; profiles = refl; runtime = refl; temporary = refl };
    }
    by false e = record {
      present = λ h. absurd (false≢true (sym e ∙ h));
      fresh =
          λ h. (
            (added_of dir a).object,
            at_inserted nat_list_cmp_total bytes_antisymmetric w.objects a.path (added_of dir a).object,
            as_passed dir a,
          );
      others =
          λ p other. next_to_inserted nat_list_cmp_total bytes_antisymmetric w.objects a.path (added_of dir a).object p
          other;
      roots = record { permanent = refl; user_roots = refl; profiles = refl; runtime = refl; temporary = refl };
    }

adds : (s : Settings) (q : Request) (a : Submitted) → ((w : World) (c : Caller) → answer s w c q ≡ path a.path)
    → ((w : World) → effect s w q ≡ with_object w (added_of s.store_dir a)) → AddsExactly s q a
adds s q a answers does w c (done x) new h d = (
  ap done (h.2 ∙ answers w c),
  subst (λ (u : World). Gains s.store_dir a w u) (sym (h.3 ∙ does w))
      (gained s.store_dir a w),
)
adds s q a answers does w c (denied rule root) new h d = absurd d
adds s q a answers does w c (refused r) new h d = absurd d
adds s q a answers does w c (failed f) new h d = absurd d

pub text_exact : (s : Settings) (name : List ℕ) (refs : List Path) (contents : List ℕ)
    → AddsExactly s (add_text name refs contents) (with_text s.store_dir name refs contents)
unfolding added_of text_archive
text_exact s name refs contents =
    adds s (add_text name refs contents) (with_text s.store_dir name refs contents) (λ w c. refl) (λ w. refl)

pub source_exact : (s : Settings) (name : List ℕ) (refs : List Path) (nar : List ℕ)
    → AddsExactly s (add_source name refs nar) (with_source s.store_dir name refs nar)
unfolding added_of
source_exact s name refs nar =
    adds s (add_source name refs nar) (with_source s.store_dir name refs nar) (λ w c. refl) (λ w. refl)

pub import_exact : (s : Settings) (i : Imported) → AddsExactly s (import_object i) (with_import i)
unfolding added_of
import_exact s i = adds s (import_object i) (with_import i) (λ w c. refl) (λ w. refl)

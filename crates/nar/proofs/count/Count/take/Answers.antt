use Rattle.std.proofs.Common.{◌≡◌, ◌-◌, ◌&&◌, ℕ, min, eqb, length, drop, ap, ◌∙◌, refl}
use Rattle.std.specs.List.{list_all}
use Rattle.std.proofs.lemmas.List.{take_rest}
use Rattle.nar.proofs.Counting.{counts_more}
use Rattle.nar.proofs.count.Count.take.Goals as goal
use Rattle.nar.proofs.count.Count.take.Goals.{then-self, else-self}

pub returns-clause-counts : goal.returns-clause-counts
returns-clause-counts c = λ room rest h.
    let bytes = c.args.bytes.now in
    let m : c.min-text.result ≡ min (c.args.self.now.text - c.args.self.now.got) (length bytes) =
    c.min-text.ensures ∙ ap (λ (n : ℕ). min n (length bytes)) c.saturating_sub.ensures in
    let zeros : c.are_zeros-is_clean.result
    ≡ list_all (λ b. eqb b 0) (drop (min (c.args.self.now.text - c.args.self.now.got) (length bytes)) bytes) =
    c.are_zeros-is_clean.ensures ∙ ap (list_all (λ b. eqb b 0)) (take_rest bytes c.min-text.result)
    ∙ ap (λ (n : ℕ). list_all (λ b. eqb b 0) (drop n bytes)) m in
    let clean : c.if-self.self ≡ (c.args.self.now.is_clean
    && list_all (λ b. eqb b 0) (drop (min (c.args.self.now.text - c.args.self.now.got) (length bytes)) bytes)) =
    elim c.if-self.branch [
      | then-self w ↦ rw w.if-self.true (w.self-is ∙ zeros)
      | else-self w ↦ rw w.if-self.false (w.self-is ∙ w.if-self.false)
    ] in
    counts_more c.args.self.now _ room rest bytes refl refl refl c.requires clean h

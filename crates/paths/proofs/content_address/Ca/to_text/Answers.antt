use Rattle.std.proofs.Common.{◌≡◌, ◌++◌, Ok, length, rules, string_bytes, sym, ap, ap₂, ◌∙◌}
use Rattle.paths.specs.Base32.{unbase32}
use Rattle.paths.specs.ContentAddress.{ContentAddress, address_prefix}
use Rattle.paths.proofs.Addresses.{address-read}
use Rattle.paths.proofs.content_address.Ca.to_text.Goals as goal

pub returns-clause-back : goal.returns-clause-back
returns-clause-back c =
    let count : length c.self.inside.digest ≡ 32 = search rules in
    address-read c.args.self.now (string_bytes c.push_str.new.self) (string_bytes c.in_ok-digits.digits)
    (c.in_ok-push_str.ensures.bytes
    ∙ ap₂ (λ a b. a ++ b) (c.in_ok-text.ensures.ok ∙ c.prefix.ensures
    ∙ ap (λ (x : ContentAddress). address_prefix x.method) c.self.view_is) c.as_str.ensures.value)
    (ap (unbase32 (string_bytes c.in_ok-digits.digits)) (sym count) ∙ c.in_ok-digits.ensures.back
    ∙ ap (λ (x : ContentAddress). Ok x.digest) c.self.view_is)

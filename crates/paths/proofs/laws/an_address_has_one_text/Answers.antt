use Rattle.paths.proofs.Addresses.{address-is, address-back}
use Rattle.paths.proofs.laws.an_address_has_one_text.Goals as goal

pub returns : goal.returns
returns c = λ ca text. (address-is text ca, λ h. address-back ca.method ca.digest text h.digest h.bytes h.spells)

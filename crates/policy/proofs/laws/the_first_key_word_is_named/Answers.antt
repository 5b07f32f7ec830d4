use Rattle.policy.specs.Toml.{document_of}
use Rattle.policy.proofs.KeyWords.{first_that_applies}
use Rattle.policy.proofs.laws.the_first_key_word_is_named.Goals as goal

pub returns : goal.returns
returns c text = first_that_applies (document_of text)

use Rattle.text_laws.proofs.Longest.{longest}
use Rattle.text_laws.proofs.Plain.{plain_itself}
use Rattle.text_laws.proofs.Sound.{text_sound}
use Rattle.text_laws.proofs.string_texts_are_lawful.Goals as goal

pub returns : goal.returns
returns c = record { indentation_is_longest = longest; plain_is_itself = plain_itself; text_is_utf8 = text_sound }

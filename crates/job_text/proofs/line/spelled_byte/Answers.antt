use Rattle.std.proofs.Common.{sym, ◌∙◌, refl}
use Rattle.job_text.proofs.ByteWords.{byte_read, byte_unread}
use Rattle.job_text.proofs.line.spelled_byte.Goals as goal

pub returns-in-Some : goal.returns-in-Some
returns-in-Some c = byte_read c.args.word.now c.in-Some.byte (sym c.byte.ensures ∙ c.in-Some.is)

pub returns-in-None : goal.returns-in-None
returns-in-None c = (byte_unread c.args.word.now (sym c.byte.ensures ∙ c.in-None.is), refl)

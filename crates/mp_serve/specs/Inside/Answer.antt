-- The text of an answer.
use Rattle.std.specs.Prelude.{ℕ, List}
use Rattle.mp_serve.specs.declared.answer.Answer.{Answer}
use Rattle.mp_serve.specs.declared.answer.Answer.TheVariants.{Done, Line, NoMemory}
use Rattle.mp_serve.specs.Texts.{ok_text, no_memory_text}

abbrev pub text_of : Answer → List ℕ
text_of Done = ok_text
text_of (Line text) = text.items
text_of NoMemory = no_memory_text

-- A command that reads all words as another one does.
use Rattle.std.specs.Prelude.{◌≡◌, List}
use Rattle.clap.specs.Faults.{fault_of, is_simple_and_free}
use Rattle.clap.specs.Words.{App, Text, is_simple, subcommand_of, takes}

pub record IsAlike (a b : App) : Type 0 where
  pub simple : is_simple a ≡ is_simple b
  pub free : is_simple_and_free a ≡ is_simple_and_free b
  pub faults : (words : List Text) → fault_of a words ≡ fault_of b words
  pub met : (words : List Text) → subcommand_of a words ≡ subcommand_of b words
  pub taken : (words : List Text) → takes a words ≡ takes b words

-- Laws of the bytes of data and scripts.
use Rattle.std.specs.Prelude.{◌≡◌, ◌↔◌, List, ℕ, IsTrue, Ok}
use Rattle.mp_script.specs.Datum as data_terms
use Rattle.mp_script.specs.Datum.{Datum}
use Rattle.mp_script.specs.DataReading.{datum_of, tree_of}
use Rattle.mp_script.specs.Script.{Tree}
use Rattle.mp_script.specs.Script as script_terms
use Rattle.mp_script.specs.ScriptReading.{script_of}
use Rattle.mp_script.specs.Meaning.{same_datum}

-- bytes spell at most one datum, which is the one that decoding returns
pub record DatumIsOne : Type 0 where
  pub spelled_once : (bytes : List ℕ) (d e : Datum) → data_terms.Spells bytes d → data_terms.Spells bytes e → d ≡ e
  pub read : (bytes : List ℕ) (d : Datum) → data_terms.Spells bytes d → datum_of bytes ≡ Ok d
  pub seen : (bytes : List ℕ) (d : Datum) → data_terms.Spells bytes d → tree_of bytes ≡ d

-- bytes spell at most one script, which is the one that decoding returns
pub record ScriptIsOne : Type 0 where
  pub spelled_once : (bytes : List ℕ) (s t : Tree) → script_terms.Spells bytes s → script_terms.Spells bytes t → s ≡ t
  pub read : (bytes : List ℕ) (t : Tree) → script_terms.Spells bytes t → script_of bytes ≡ Ok t

-- a datum and a script have at most one spelling
pub record SpellingIsOne : Type 0 where
  pub of_datum : (a b : List ℕ) (d : Datum) → data_terms.Spells a d → data_terms.Spells b d → a ≡ b
  pub of_script : (a b : List ℕ) (t : Tree) → script_terms.Spells a t → script_terms.Spells b t → a ≡ b

-- two data that have spellings are the same exactly when they are equal
abbrev pub SameIsEqual : Type 0
SameIsEqual = (a b : List ℕ) (d e : Datum) → data_terms.Spells a d → data_terms.Spells b e → (IsTrue (same_datum d e) ↔ (d ≡ e))

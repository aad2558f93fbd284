-- The laws of data and scripts.
use Rattle.std.proofs.Common.{◌≡◌, Result, Ok, refl, sym, ap, ◌∙◌}
use Rattle.std.specs.Cmp.Lexicographic.{bytes_decides}
use Rattle.mp_script.specs.Datum.{Datum, spelling}
use Rattle.mp_script.specs.Datum as data_terms
use Rattle.mp_script.specs.DataReading.{datum_of}
use Rattle.mp_script.specs.ScriptReading.{script_of}
use Rattle.mp_script.specs.Laws.{DatumIsOne, ScriptIsOne, SpellingIsOne, SameIsEqual}
use Rattle.mp_script.proofs.DataLaws as data_laws
use Rattle.mp_script.proofs.DatumRefLaws.{tree_is}
use Rattle.mp_script.proofs.ScriptLaws as script_laws

one_value : {A E : Type 0} (r : Result A E) (x y : A) → r ≡ Ok x → r ≡ Ok y → x ≡ y
one_value r x y e f = cc

pub datum_is_one : DatumIsOne
datum_is_one = record {
  spelled_once = λ bytes d e s t. one_value (datum_of bytes) d e (data_laws.spelled_is_read bytes d s) (data_laws.spelled_is_read bytes e t);
  read = data_laws.spelled_is_read;
  seen = tree_is;
}

pub script_is_one : ScriptIsOne
script_is_one = record {
  spelled_once = λ bytes s t p q. one_value (script_of bytes) s t (script_laws.spelled_is_read bytes s p) (script_laws.spelled_is_read bytes t q);
  read = script_laws.spelled_is_read;
}

pub spelling_is_one : SpellingIsOne
spelling_is_one = record {
  of_datum = λ a b d s t. s.spelled ∙ sym t.spelled;
  of_script = λ a b t p q. p.spelled ∙ sym q.spelled;
}

same_spelling : (d e : Datum) → data_terms.Spells (spelling d) d → data_terms.Spells (spelling e) e → spelling d ≡ spelling e → d ≡ e
same_spelling d e s t same = one_value (datum_of (spelling e)) d e (ap datum_of (sym same) ∙ data_laws.spelled_is_read (spelling d) d s) (data_laws.spelled_is_read (spelling e) e t)

pub same_is_equal : SameIsEqual
same_is_equal a b d e s t =
    let bytes = bytes_decides (spelling d) (spelling e) in
    let first : data_terms.Spells (spelling d) d = record { fits = s.fits; shallow = s.shallow; spelled = refl } in
    let second : data_terms.Spells (spelling e) e = record { fits = t.fits; shallow = t.shallow; spelled = refl } in
    (λ same. same_spelling d e first second (bytes.0 same), λ equal. bytes.1 (ap spelling equal))

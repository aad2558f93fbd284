-- Bytes that are a whole script or datum are read as one.
use Rattle.std.proofs.Common.{◌≡◌, List, ℕ, true, ap}
use Rattle.std.specs.Prelude.{is_ok}
use Rattle.mp_script.specs.Datum.{IsDatum}
use Rattle.mp_script.specs.DataReading.{datum_of}
use Rattle.mp_script.specs.Script.{IsScript}
use Rattle.mp_script.specs.ScriptReading.{script_of}
use Rattle.mp_script.proofs.LawsLemmas.{datum_is_one, script_is_one}

pub script_is_ok : (text : List ℕ) → IsScript text → is_ok (script_of text) ≡ true
script_is_ok text h = ap is_ok (script_is_one.read text h.0 h.1)

pub datum_is_ok : (bytes : List ℕ) → IsDatum bytes → is_ok (datum_of bytes) ≡ true
datum_is_ok bytes h = ap is_ok (datum_is_one.read bytes h.0 h.1)

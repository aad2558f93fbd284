-- The scheme with a name.
use Rattle.mp_signatures.specs.declared.scheme.Scheme.{Scheme}
use Rattle.mp_signatures.specs.declared.scheme.Scheme.TheVariants as schemes
use Rattle.mp_main.specs.declared.command_line.asked.SchemeName.{SchemeName}
use Rattle.mp_main.specs.declared.command_line.asked.SchemeName.TheVariants.{Trial, Checked, Ed25519}

abbrev pub scheme_of : SchemeName → Scheme
scheme_of Trial = schemes.Trial
scheme_of Checked = schemes.Checked
scheme_of Ed25519 = schemes.Ed25519

-- What a verifier is seen as.
use Rattle.mp_signatures.specs.declared.scheme.Scheme.{Scheme}
use Rattle.mp_signatures.specs.declared.scheme.Scheme.TheVariants as schemes
use Rattle.mp_signatures.specs.declared.signatures.Means.{Means}
use Rattle.mp_signatures.specs.declared.signatures.Means.TheVariants.{Trial, Checked, Ed25519}

abbrev pub scheme_of : Means → Scheme
scheme_of Trial = schemes.Trial
scheme_of Checked = schemes.Checked
scheme_of (Ed25519 verifier) = schemes.Ed25519

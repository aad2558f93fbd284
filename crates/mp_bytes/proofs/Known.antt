-- Digests of bytes that occur again and again.
use Rattle.std.proofs.Common.{◌≡◌, [], ◌∷◌, refl}
use Rattle.sha2.specs.Sha256.{sha256, digest_bytes, hash_after, compress, rounds, schedule, first_words}

pub one : sha256 (1 ∷ []) ≡ 75 ∷ 245 ∷ 18 ∷ 47 ∷ 52 ∷ 69 ∷ 84 ∷ 197 ∷ 59 ∷ 222 ∷ 46 ∷ 187 ∷ 140 ∷ 210 ∷ 183 ∷ 227 ∷ 209 ∷ 96 ∷ 10 ∷ 214 ∷ 49 ∷ 195 ∷ 133 ∷ 165 ∷ 215 ∷ 204 ∷ 226 ∷ 60 ∷ 119 ∷ 133 ∷ 69 ∷ 154 ∷ []
unfolding sha256 digest_bytes hash_after compress rounds schedule first_words
one = refl

pub unit : sha256 (3 ∷ 0 ∷ 0 ∷ []) ≡ 62 ∷ 68 ∷ 121 ∷ 230 ∷ 181 ∷ 160 ∷ 163 ∷ 190 ∷ 209 ∷ 68 ∷ 3 ∷ 37 ∷ 202 ∷ 75 ∷ 176 ∷ 147 ∷ 39 ∷ 161 ∷ 223 ∷ 179 ∷ 156 ∷ 40 ∷ 189 ∷ 213 ∷ 157 ∷ 229 ∷ 58 ∷ 104 ∷ 122 ∷ 222 ∷ 1 ∷ 5 ∷ []
unfolding sha256 digest_bytes hash_after compress rounds schedule first_words
unit = refl

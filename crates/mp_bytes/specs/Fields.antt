-- Fields at the front of bytes: the field and the bytes after it, or nothing if there are too few bytes. Numbers are
-- big-endian.
use Rattle.std.specs.Prelude.{ℕ, ℤ, List, Option, Some, None, if◌then◌else◌, nat_lt, length, take, drop}
use Rattle.std.specs.Option.{option_and_then}
use Rattle.std.specs.Int.{w16, w64, from_be_bytes, cast_signed}

-- a number of 8 bytes, in two's complement
unfoldable pub number_at : List ℕ → Option (ℤ × List ℕ)
number_at bytes = if nat_lt (length bytes) 8 then None else Some (cast_signed w64 (from_be_bytes w64 (take 8 bytes)), drop 8 bytes)

-- an unsigned number of 8 bytes
unfoldable pub unsigned_at : List ℕ → Option (ℕ × List ℕ)
unsigned_at bytes = if nat_lt (length bytes) 8 then None else Some (from_be_bytes w64 (take 8 bytes), drop 8 bytes)

-- a count of 2 bytes
unfoldable pub count_at : List ℕ → Option (ℕ × List ℕ)
count_at bytes = if nat_lt (length bytes) 2 then None else Some (from_be_bytes w16 (take 2 bytes), drop 2 bytes)

-- n bytes
unfoldable pub run_at : ℕ → List ℕ → Option (List ℕ × List ℕ)
run_at n bytes = if nat_lt (length bytes) n then None else Some (take n bytes, drop n bytes)

-- a count of 2 bytes, and then that many bytes, without the count
unfoldable pub sized_at : List ℕ → Option (List ℕ × List ℕ)
sized_at bytes = option_and_then (λ len. run_at len.0 len.1) (count_at bytes)

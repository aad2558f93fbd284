-- The settings of a scenario.
use Rattle.std.specs.Prelude.{ℕ, Option, None, option_map, unwrap_or}
use Rattle.mp_names.specs.declared.settings.Setting.{Setting}
use Rattle.mp_names.specs.declared.settings.Setting.TheVariants.{BlockBytes, Limit, Last, Tick}
use Rattle.mp_names.specs.Once.{set_once}
use Rattle.mp_session.specs.declared.settings.Settings.{Settings}

abbrev pub no_settings : ℕ → Settings
no_settings salt = record { block_bytes = None; limit = None; last = None; tick = None; salt = salt }

-- each at most once
abbrev pub with_setting : Settings → Setting → Option Settings
with_setting s (BlockBytes n) = option_map (λ x. record s { block_bytes = x }) (set_once s.block_bytes n)
with_setting s (Limit n) = option_map (λ x. record s { limit = x }) (set_once s.limit n)
with_setting s (Last n) = option_map (λ x. record s { last = x }) (set_once s.last n)
with_setting s (Tick n) = option_map (λ x. record s { tick = x }) (set_once s.tick n)

-- with the defaults
abbrev pub block_bytes_of : Settings → ℕ
block_bytes_of s = unwrap_or s.block_bytes 500000

abbrev pub limit_of : Settings → ℕ
limit_of s = unwrap_or s.limit 1000000

abbrev pub last_of : Settings → ℕ
last_of s = unwrap_or s.last 0

abbrev pub salt_of : Settings → ℕ
salt_of s = s.salt

abbrev pub tick_of : Settings → ℕ
tick_of s = unwrap_or s.tick 0

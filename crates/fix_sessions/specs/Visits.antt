-- Connections that have no session: from which no message came, or whose Logon was refused.
use Rattle.std.specs.Prelude.{ℕ, ◌-◌, Bool, nat_le}
use Rattle.fix_sessions.specs.declared.state.TheConstants.{FIRST_WAIT, LOGOUT_WAIT}

-- no whole message came for ten seconds
abbrev pub is_first_late : ℕ → ℕ → Bool
is_first_late since now = nat_le FIRST_WAIT (now - since)

-- the firm's Logout did not come for two seconds
abbrev pub is_parting_over : ℕ → ℕ → Bool
is_parting_over since now = nat_le LOGOUT_WAIT (now - since)

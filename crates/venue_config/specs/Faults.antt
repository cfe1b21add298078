-- The names of the faults of a configuration.
use Rattle.std.specs.Prelude.{ℕ, List, codes}
use Rattle.venue_config.specs.declared.faults.ConfigFault.{ConfigFault}
use Rattle.venue_config.specs.declared.faults.ConfigFault.TheVariants.{Toml, Missing, Name, Twice}
use Rattle.venue_config.specs.declared.faults.ConfigFault.TheVariants.{Limit, Memory}

-- the name of a fault
abbrev pub fault_name : ConfigFault → List ℕ
fault_name Toml = codes "Toml"
fault_name Missing = codes "Missing"
fault_name Name = codes "Name"
fault_name Twice = codes "Twice"
fault_name Limit = codes "Limit"
fault_name Memory = codes "Memory"

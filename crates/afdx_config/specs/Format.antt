-- The format of a plan: the keys of its tables and their values.
use Rattle.std.specs.Prelude.{◌∷◌}
use Rattle.afdx_config.specs.Names.{Bool, List, [], codes, false, true, ℕ}
use Rattle.afdx_config.specs.declared.format.Content.{Content}
use Rattle.afdx_config.specs.declared.format.Content.TheVariants.{Whole, Version, Gap, Networks, PortKind, Address, Checksum, Section, Rows}

-- a key of a table and its value
pub record Field : Type 0 where
  pub key : List ℕ
  pub content : Content

abbrev pub field : List ℕ → Content → Field
field name what = record { key = name; content = what }

-- the ranges of identifiers, of Lmax, of the number of sub-VLs, of the capacity of a queue, of sub-VLs, of partitions,
-- of UDP ports, and of the greatest message
abbrev pub id_range : ℕ × ℕ
id_range = (0, 65535)

abbrev pub lmax_range : ℕ × ℕ
lmax_range = (64, 1518)

abbrev pub subs_range : ℕ × ℕ
subs_range = (1, 4)

abbrev pub capacity_range : ℕ × ℕ
capacity_range = (1, 256)

abbrev pub sub_range : ℕ × ℕ
sub_range = (0, 3)

abbrev pub partition_range : ℕ × ℕ
partition_range = (0, 31)

abbrev pub udp_range : ℕ × ℕ
udp_range = (1, 65535)

abbrev pub max_range : ℕ × ℕ
max_range = (1, 8192)

-- the top level of the text
abbrev pub document_fields : List Field
document_fields = field (codes "version") Version
    ∷ field (codes "end_system") Section
    ∷ field (codes "vl") Rows
    ∷ field (codes "port") Rows
    ∷ []

-- the table of the end system
abbrev pub end_fields : List Field
end_fields = field (codes "id") (Whole id_range) ∷ []

-- a key of version 2 that version 1 lacks
abbrev pub only_in_2 : Bool → Field → List Field
only_in_2 true newer = newer ∷ []
only_in_2 false newer = []

-- the table of a link
abbrev pub link_fields : Bool → List Field
link_fields is_2 = field (codes "id") (Whole id_range)
    ∷ field (codes "bag_ms") Gap
    ∷ field (codes "lmax") (Whole lmax_range)
    ∷ field (codes "sub_vls") (Whole subs_range)
    ∷ field (codes "capacity") (Whole capacity_range)
    ∷ only_in_2 is_2 (field (codes "networks") Networks)

-- the table of a port
abbrev pub port_fields : Bool → List Field
port_fields is_2 = field (codes "id") (Whole id_range)
    ∷ field (codes "vl") (Whole id_range)
    ∷ field (codes "sub") (Whole sub_range)
    ∷ field (codes "partition") (Whole partition_range)
    ∷ field (codes "kind") PortKind
    ∷ field (codes "source") (Whole udp_range)
    ∷ field (codes "destination") (Whole udp_range)
    ∷ field (codes "max") (Whole max_range)
    ∷ field (codes "dest_ip") Address
    ∷ only_in_2 is_2 (field (codes "checksum") Checksum)

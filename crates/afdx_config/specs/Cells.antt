-- The values of links and ports that have no fault, and the plan of a document.
use Rattle.std.specs.Prelude.{if◌then◌else◌}
use Rattle.afdx_config.specs.Names.{Bool, Both, Cells, LinkPlan, LinkRow, Members, Ms1, None, Omitted, Plan, PortPlan, PortRow, Sampling, Some, codes, is_none, map, option_and_then, plan_of_parts, unwrap_or, ℕ}
use Rattle.afdx_config.specs.declared.format.Content.TheVariants.{Rows}
use Rattle.afdx_config.specs.Format.{field, capacity_range, id_range, lmax_range, max_range, partition_range, sub_range, subs_range, udp_range}
use Rattle.afdx_config.specs.Tables.{value_at, number_under, gap_under, networks_under, kind_under, address_under, checksum_under, field_fault, is_version_2, rows_at, section_at}

-- the link of a table in version 2 or 1 of the format
unfoldable pub link_row : Bool → Members → LinkRow
link_row is_2 members = record {
  id = value_at (number_under id_range) (codes "id") members;
  bag = value_at gap_under (codes "bag_ms") members;
  lmax = value_at (number_under lmax_range) (codes "lmax") members;
  sub_vls = value_at (number_under subs_range) (codes "sub_vls") members;
  capacity = value_at (number_under capacity_range) (codes "capacity") members;
  networks = if is_2 then value_at networks_under (codes "networks") members else Some Both;
}

-- the port of a table
unfoldable pub port_row : Bool → Members → PortRow
port_row is_2 members = record {
  id = value_at (number_under id_range) (codes "id") members;
  vl = value_at (number_under id_range) (codes "vl") members;
  sub = value_at (number_under sub_range) (codes "sub") members;
  partition = value_at (number_under partition_range) (codes "partition") members;
  kind = value_at kind_under (codes "kind") members;
  source = value_at (number_under udp_range) (codes "source") members;
  destination = value_at (number_under udp_range) (codes "destination") members;
  max = value_at (number_under max_range) (codes "max") members;
  unicast = value_at address_under (codes "dest_ip") members;
  checksum = if is_2 then value_at checksum_under (codes "checksum") members else Some Omitted;
}

-- the values of a document
abbrev pub cells_of : Members → Cells
cells_of document = record {
  links = map (link_row (is_version_2 document)) (rows_at (codes "vl") document);
  ports = map (port_row (is_version_2 document)) (rows_at (codes "port") document);
  has_links = is_none (field_fault document (field (codes "vl") Rows));
  has_ports = is_none (field_fault document (field (codes "port") Rows));
}

-- the link and the port with these values, with the least one in place of a value with a fault
abbrev pub link_of : LinkRow → LinkPlan
link_of row = record {
  id = record { 0 = unwrap_or row.id 0 };
  bag = unwrap_or row.bag Ms1;
  lmax = unwrap_or row.lmax 64;
  sub_vls = unwrap_or row.sub_vls 1;
  capacity = unwrap_or row.capacity 1;
  networks = unwrap_or row.networks Both;
}

abbrev pub port_of : PortRow → PortPlan
port_of row = record {
  id = record { 0 = unwrap_or row.id 0 };
  vl = record { 0 = unwrap_or row.vl 0 };
  sub = unwrap_or row.sub 0;
  partition = unwrap_or row.partition 0;
  kind = unwrap_or row.kind Sampling;
  source = unwrap_or row.source 1;
  destination = unwrap_or row.destination 1;
  max = unwrap_or row.max 1;
  unicast = unwrap_or row.unicast None;
  checksum = unwrap_or row.checksum Omitted;
}

-- the identifier of the end system, or 0 if it has a fault
abbrev pub end_system_of : Members → ℕ
end_system_of document = unwrap_or
    (option_and_then (value_at (number_under id_range) (codes "id")) (section_at (codes "end_system") document)) 0

-- the plan of a document: its links and ports in the order of the text
abbrev pub plan_of : Members → Plan
plan_of document = plan_of_parts (end_system_of document)
    (map link_of (cells_of document).links) (map port_of (cells_of document).ports)

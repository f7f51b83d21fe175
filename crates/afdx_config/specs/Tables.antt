-- The tables of a document, values of them by key, and the faults of these.
use Rattle.std.specs.Prelude.{if◌then◌else◌, ◌==◌, ◌||◌, ◌∷◌}
use Rattle.afdx_config.specs.Names.{BadBag, Bag, Bool, Both, ConfigFault, Data, Err, Items, Kind, List, Members, MissingKey, Networks as Nets, None, Ok, Omitted, Option, OutOfRange, Result, Some, UdpSum, UnknownKey, WrongKind, [], as_array, as_integer, as_str, as_table, bytes_eq, codes, cons_option, false, fault_number, get_member, is_none, item, list_any, member, nat_lt, negsuc, no_items, no_members, not, ok_or, option_and_then, option_map_or, pos, result_err, result_ok, then_some, ℕ, ℤ}
use Rattle.afdx_config.specs.declared.format.Content.{Content}
use Rattle.afdx_config.specs.declared.format.Content.TheVariants.{Whole, Version, Gap, Networks, PortKind, Address, Checksum, Section, Rows}
use Rattle.afdx_config.specs.Values.{bag_of, networks_of, kind_of, unicast_of, checksum_of}
use Rattle.afdx_config.specs.Format.{Field}

-- a number of a range
abbrev pub in_range : ℕ × ℕ → ℤ → Option ℕ
in_range range (pos n) = if nat_lt n range.0 || nat_lt range.1 n then None else Some n
in_range range (negsuc n) = None

-- the result of reading a value: `missing` if there is none, `WrongKind` if it has another kind, `fault` if it can't be
-- converted
abbrev pub converted : {X Y : Type 0} → (X → Option Y) → ConfigFault → Option X → Result Y ConfigFault
converted convert fault None = Err WrongKind
converted convert fault (Some x) = ok_or (convert x) fault

abbrev pub read : {X Y : Type 0} → Result Y ConfigFault → (Data → Option X) → (X → Option Y) → ConfigFault → Option Data
    → Result Y ConfigFault
read missing kind convert fault None = missing
read missing kind convert fault (Some value) = converted convert fault (kind value)

-- the value under a key: a number, the version of the format, a BAG, networks, a kind, an address, a checksum
abbrev pub number_under : ℕ × ℕ → Option Data → Result ℕ ConfigFault
number_under range = read (Err MissingKey) as_integer (in_range range) OutOfRange

abbrev pub version_under : Option Data → Result ℕ ConfigFault
version_under = read (Ok 1) as_integer (in_range (1, 2)) OutOfRange

abbrev pub gap_under : Option Data → Result Bag ConfigFault
gap_under = read (Err MissingKey) as_integer bag_of BadBag

abbrev pub networks_under : Option Data → Result Nets ConfigFault
networks_under = read (Ok Both) as_str networks_of OutOfRange

abbrev pub kind_under : Option Data → Result Kind ConfigFault
kind_under = read (Err MissingKey) as_str kind_of OutOfRange

abbrev pub address_under : Option Data → Result (Option (List ℕ)) ConfigFault
address_under = read (Ok None) as_str unicast_of OutOfRange

abbrev pub checksum_under : Option Data → Result UdpSum ConfigFault
checksum_under = read (Ok Omitted) as_str checksum_of OutOfRange

-- the value under a key, if it has no fault
abbrev pub value_at : {Y : Type 0} → (Option Data → Result Y ConfigFault) → List ℕ → Members → Option Y
value_at of key members = result_ok (of (get_member key members))

-- the keys of a table
abbrev pub member_keys : Members → List (List ℕ)
member_keys no_members = []
member_keys (member key value rest) = key ∷ member_keys rest

-- the tables among the items of an array
abbrev pub tables_among : Items → List Members
tables_among no_items = []
tables_among (item d ds) = cons_option (as_table d) (tables_among ds)

-- some item is not a table
abbrev pub has_other_item : Items → Bool
has_other_item no_items = false
has_other_item (item d ds) = is_none (as_table d) || has_other_item ds

-- the fault of the value under a key
abbrev pub content_fault : Content → Option Data → Option ConfigFault
content_fault (Whole range) value = result_err (number_under range value)
content_fault Version value = result_err (version_under value)
content_fault Gap value = result_err (gap_under value)
content_fault Networks value = result_err (networks_under value)
content_fault PortKind value = result_err (kind_under value)
content_fault Address value = result_err (address_under value)
content_fault Checksum value = result_err (checksum_under value)
content_fault Section value = result_err (read (Err MissingKey) as_table (λ t. Some t) WrongKind value)
content_fault Rows value = result_err
    (read (Err MissingKey) as_array (λ items. if has_other_item items then None else Some items) WrongKind value)

abbrev pub field_fault : Members → Field → Option ConfigFault
field_fault members field = content_fault field.content (get_member field.key members)

-- the key is in the format
abbrev pub is_key_of : List Field → List ℕ → Bool
is_key_of fields key = list_any (λ field. bytes_eq key field.key) fields

-- the fault of a key that a table has: it is not in the format
abbrev pub key_fault : List Field → List ℕ → Option ConfigFault
key_fault fields key = then_some (not (is_key_of fields key)) UnknownKey

-- a fault is shown and is this one
abbrev pub is_fault : ConfigFault → Option ConfigFault → Bool
is_fault fault None = false
is_fault fault (Some other) = fault_number fault == fault_number other

-- the tables of the array under a key
abbrev pub rows_at : List ℕ → Members → List Members
rows_at key document =
    option_map_or tables_among (option_and_then as_array (get_member key document)) []

-- the table under a key
abbrev pub section_at : List ℕ → Members → Option Members
section_at key document = option_and_then as_table (get_member key document)

-- true if the document has format version 2
abbrev pub is_version_2 : Members → Bool
is_version_2 document = option_map_or (λ n. n == 2) (value_at version_under (codes "version") document) false

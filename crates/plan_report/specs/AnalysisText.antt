-- The text of an analysis: a table for the links, one for the networks, one for the ports and one for the sub-VLs.
use Rattle.std.specs.Prelude.{codes, max, ℕ, ◌/◌, ◌%◌, List, [], ◌∷◌, ◌++◌, Bool, Option, Some, None, if◌then◌else◌, flat_map, decimal, false, min, nat_lt}
use Rattle.std.specs.Fmt.{styled_decimal, format_spec}
use Rattle.afdx_frame.specs.declared.net.Net.{Net}
use Rattle.afdx_frame.specs.declared.net.Net.TheVariants.{A, B}
use Rattle.afdx_plan.specs.Plan.{bag_ms}
use Rattle.afdx_plan.specs.declared.link_plan.Networks.{Networks}
use Rattle.afdx_plan.specs.declared.link_plan.Networks.TheVariants.{Both, OnlyA, OnlyB}
use Rattle.plan_report.specs.Report.{jitter_line}
use Rattle.plan_analysis.specs.declared.analysis.Analysis.{Analysis}
use Rattle.plan_analysis.specs.declared.analysis.LinkAnalysis.{LinkAnalysis}
use Rattle.plan_analysis.specs.declared.analysis.NetworkRow.{NetworkRow}
use Rattle.plan_analysis.specs.declared.analysis.PortAnalysis.{PortAnalysis}
use Rattle.plan_analysis.specs.declared.memory.SubRow.{SubRow}

-- a number at the right end of a column of `width` characters, as `{n:>width}` prints it
abbrev pub right : ℕ → ℕ → List ℕ
right width n = styled_decimal (format_spec 32 3 0 width 18446744073709551615) n

-- a number in at least `width` digits, as `{n:0width}` prints it
abbrev pub in_digits : ℕ → ℕ → List ℕ
in_digits width n = styled_decimal (format_spec 32 0 4 width 18446744073709551615) n

-- A number with its decimal point. The pair `unit` has the number of parts in a whole, and the number of their digits;
-- `width` characters come before the point.
unfoldable pub with_point : ℕ × ℕ → ℕ → ℕ → List ℕ
with_point unit width n = right width (n / max unit.0 1) ++ codes "." ++ in_digits unit.1 (n % max unit.0 1)

-- a number of thousandths, and of hundredths
abbrev pub thousandths : ℕ → ℕ → List ℕ
thousandths = with_point (1000, 3)

abbrev pub hundredths : ℕ → ℕ → List ℕ
hundredths = with_point (100, 2)

-- the first line: the end system and the lateness of polls
unfoldable pub head_line : ℕ → ℕ → List ℕ
head_line end_system lateness = codes "end system " ++ decimal end_system ++ codes ", polls up to "
    ++ decimal lateness ++ codes " us late" ++ 10 ∷ []

-- the networks of a link
abbrev pub networks_cell : Networks → List ℕ
networks_cell Both = codes "  A+B"
networks_cell OnlyA = codes "    A"
networks_cell OnlyB = codes "    B"

-- the column heads of the links
unfoldable pub links_head : List ℕ
links_head = codes " link bag-ms lmax subs  nets    load-kbit/s  share-%  jitter-ns" ++ 10 ∷ []

-- the row of a link
unfoldable pub link_line : LinkAnalysis → List ℕ
link_line row = right 5 row.plan.id.0 ++ right 7 (bag_ms row.plan.bag) ++ right 5 row.plan.lmax
    ++ right 5 row.plan.sub_vls ++ codes " " ++ networks_cell row.plan.networks ++ thousandths 11 row.load
    ++ hundredths 6 row.share ++ right 11 row.jitter ++ 10 ∷ []

-- the column heads of the networks
unfoldable pub networks_head : List ℕ
networks_head = codes "network    load-kbit/s  share-%  exceeded  jitter-ns" ++ 10 ∷ []

-- the name of a network
abbrev pub network_name : Net → List ℕ
network_name A = codes "      A"
network_name B = codes "      B"

-- the cell of a network's load: `yes` if it is more than 100 Mbit/s
abbrev pub exceeded_cell : Bool → List ℕ
exceeded_cell exceeded = if exceeded then codes "       yes" else codes "        no"

-- the row of a network
unfoldable pub network_line : NetworkRow → List ℕ
network_line row = network_name row.net ++ thousandths 11 row.load ++ hundredths 6 row.share
    ++ exceeded_cell row.exceeded ++ right 11 row.jitter ++ 10 ∷ []

-- the column heads of the ports
unfoldable pub ports_head : List ℕ
ports_head = codes " port  link sub fragments        wait-us   messages/s" ++ 10 ∷ []

-- the row of a port
unfoldable pub port_line : PortAnalysis → List ℕ
port_line row = right 5 row.id.0 ++ right 6 row.vl.0 ++ right 4 row.sub ++ right 10 row.fragments ++ right 15 row.wait
    ++ thousandths 9 row.sustained ++ 10 ∷ []

-- the table of the links, with the jitter of all of them
unfoldable pub links_table : List LinkAnalysis → ℕ → List ℕ
links_table rows jitter = links_head ++ flat_map link_line rows ++ jitter_line (codes " ns of ") jitter

-- the table of the networks
unfoldable pub networks_table : NetworkRow → NetworkRow → List ℕ
networks_table a b = networks_head ++ network_line a ++ network_line b

-- the table of the ports
unfoldable pub ports_table : List PortAnalysis → List ℕ
ports_table rows = ports_head ++ flat_map port_line rows

-- the column heads of the sub-VLs
unfoldable pub memory_head : List ℕ
memory_head = codes " link sub capacity ports partitions greatest         bytes" ++ 10 ∷ []

-- the row of a sub-VL
unfoldable pub sub_line : SubRow → List ℕ
sub_line row = right 5 row.vl.0 ++ right 4 row.sub ++ right 9 row.capacity ++ right 6 row.ports
    ++ right 11 row.partitions ++ right 9 row.greatest ++ right 14 row.bytes ++ 10 ∷ []

-- the memory of the whole end system, and a sub-VL that holds the most if that is large
unfoldable pub total_line : ℕ → Option SubRow → List ℕ
total_line bytes None = codes "memory " ++ decimal bytes ++ codes " bytes" ++ 10 ∷ []
total_line bytes (Some row) = codes "memory " ++ decimal bytes ++ codes " bytes, 64 MiB or more: link "
    ++ decimal row.vl.0 ++ codes " sub " ++ decimal row.sub ++ codes " holds the most" ++ 10 ∷ []

-- the table of the sub-VLs, with the memory of the whole end system
unfoldable pub memory_table : List SubRow → ℕ → Option SubRow → List ℕ
memory_table rows bytes large = memory_head ++ flat_map sub_line rows ++ total_line bytes large

-- the whole text
unfoldable pub text_of : Analysis → List ℕ
text_of analysis = head_line analysis.end_system analysis.lateness
    ++ links_table analysis.links.items analysis.jitter
    ++ networks_table analysis.network_a analysis.network_b
    ++ ports_table analysis.ports.items
    ++ memory_table analysis.memory.subs.items analysis.memory.bytes analysis.memory.large

-- the less of the wait by the queue and the wait by traffic, if there is one
abbrev pub longest_wait : ℕ → Option ℕ → ℕ
longest_wait queue None = queue
longest_wait queue (Some traffic) = min traffic queue

-- the longest wait is over the deadline
abbrev pub is_missed : ℕ → Option ℕ → Option ℕ → Bool
is_missed queue traffic None = false
is_missed queue traffic (Some deadline) = nat_lt deadline (longest_wait queue traffic)

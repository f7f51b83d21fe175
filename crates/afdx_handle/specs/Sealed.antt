-- A `Sealed` owns nothing while it is empty, and otherwise the same as a `Box<Home>` from the C library's heap.
use base.Fml.{Fml, ftrue}
use denote.RawPtr.{Ptr}
use Rattle.std.specs.Prelude.{Option, Some, None}
use Rattle.std.specs.Global.{Global}
use Rattle.std.specs.contracts.impls.GlobalAllocator.TheImpl.{ghosts}
use Rattle.std_alloc.specs.Box.Ownership.{box_owns}
use Rattle.afdx_handle.specs.contracts.handle.Home.{the_row}

abbrev pub sealed_owns : Global → Ptr → Option the_row.Denot → Fml
sealed_owns alloc at None = ftrue
sealed_owns alloc at (Some home) = box_owns (ghosts.dealloc_token alloc) the_row at home

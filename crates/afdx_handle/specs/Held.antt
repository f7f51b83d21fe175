-- The content of a handle, by kind, and how a call borrows it.
use Rattle.std.specs.Prelude.{◌≡◌, ◌⊎◌, Option, Some, None, IsNone, IsSome, IsSomeAnd}
use Rattle.afdx_tx.specs.Ports.{PortView}
use denote.RawPtr.{Ptr}
use Rattle.afdx_handle.specs.EndSystem.{EndView}
use Rattle.afdx_handle.specs.declared.handle.Home.{Home}
use Rattle.afdx_handle.specs.declared.handle.Home as is
use Rattle.std.specs.Borrow.{Lends, MutBor, Fml}
use Rattle.afdx_handle.specs.declared.seal.Sealed.{Sealed}
use Rattle.afdx_handle.specs.contracts.handle.Home.{the_row as home_row}
use Rattle.afdx_handle.specs.contracts.seal.Sealed.{the_row}

-- the end system, if it holds one
abbrev pub end_of : Option Home → Option EndView
end_of None = None
end_of (Some (is.EndSystem' it shape boxes)) = it.value
end_of (Some (is.Port port)) = None
end_of (Some is.Nothing) = None

-- the port, if it holds one
abbrev pub port_of : Option Home → Option PortView
port_of None = None
port_of (Some (is.EndSystem' it shape boxes)) = None
port_of (Some (is.Port own)) = Some own.port
port_of (Some is.Nothing) = None

-- the address of the block of the end system that its port was taken from, if it holds a port
abbrev pub port_block : Option Home → Option Ptr
port_block None = None
port_block (Some (is.EndSystem' it shape boxes)) = None
port_block (Some (is.Port own)) = Some own.block
port_block (Some is.Nothing) = None

-- a handle that holds neither an end system nor a port
abbrev pub HoldsNothing : Option Home → Type 0
HoldsNothing held = IsNone (end_of held) × IsNone (port_of held)

-- a handle that holds an end system or a port
abbrev pub HoldsOne : Option Home → Type 0
HoldsOne held = IsSome (end_of held) ⊎ IsSome (port_of held)

-- a handle that holds an end system with this property
abbrev pub HoldsEnd : Option Home → (EndView → Type 0) → Type 0
HoldsEnd held Is = IsSomeAnd (end_of held) Is

abbrev pub HoldsPort : Option Home → (PortView → Type 0) → Type 0
HoldsPort held Is = IsSomeAnd (port_of held) Is

-- two handles that hold the same end system, the same port of the same end system, or neither
abbrev pub HoldsSame : Option Home → Option Home → Type 0
HoldsSame old new = (end_of new ≡ end_of old) × (port_of new ≡ port_of old) × (port_block new ≡ port_block old)

-- the relation between the end system before and afterwards
abbrev pub EndDoes : Option Home → Option Home → (EndView → EndView → Type 0) → Type 0
EndDoes old new Does = HoldsEnd old (λ before. HoldsEnd new (Does before))

-- the relation between the port before and afterwards; its end system stays the same
abbrev pub PortDoes : Option Home → Option Home → (PortView → PortView → Type 0) → Type 0
PortDoes old new Does = HoldsPort old (λ before. HoldsPort new (Does before)) × (port_block new ≡ port_block old)

-- the seal with another home
abbrev pub with_home : Sealed → Home → Sealed
with_home seal home = record seal { home = Some home }

-- once the borrow ends, the seal holds the home that the result last pointed to
abbrev pub LendsHome : MutBor Sealed → MutBor Home → Fml
LendsHome s r = Lends the_row home_row s r (with_home s.now)

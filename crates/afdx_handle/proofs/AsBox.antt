-- A seal owns what a box at the same types owns.
--     held_of     what an `Option` holds, if it holds something
use Rattle.std.proofs.Common.{◌≡◌, [], ◌∷◌, refl}
use Rattle.std.proofs.lemmas.Bool.{false≢true}
use Rattle.std.specs.Prelude.{Option, None, Some, IsSome}
use mir.Syntax.{impl, tnil, tcons, dnil}
use mir.Raw.{raw}
use denote.Exit.{no}
use denote.RattleType.{RattleType}
use denote.Param.{layout, arg}
use denote.Param.Laws.{arg_laws}
use Rattle.std_alloc.proofs.BoxSteps.Form.{Bx}
use Rattle.std_heap.specs.contracts.GlobalAllocator.TheImpl.{ghosts, dict}
use Rattle.std_heap.specs.contracts.Global as Heap
use Rattle.std_heap.proofs.Global.TheLaws as heap
use denote.Signature.{Slot, plain}
use Rattle.afdx_handle.specs.contracts.handle.Home as Home
use Rattle.afdx_handle.specs.contracts.seal.parts.BoxParts as BoxParts
use Rattle.afdx_handle.proofs.handle.Home.TheLaws as home

abbrev pub Content : RattleType
Content = arg (raw (layout Home.the_row)) no Home.the_row

abbrev pub Alloc : RattleType
Alloc = arg (raw (layout Heap.the_row)) no Heap.the_row

abbrev pub E : Bx
E = record {
  row = Content;
  laws = arg_laws (raw (layout Home.the_row)) no Home.the_row home.the_row_laws refl;
  al = record {
    row = Alloc;
    laws = arg_laws (raw (layout Heap.the_row)) no Heap.the_row heap.the_row_laws refl;
    g = ghosts;
    d = dict;
    drops = impl ("afdx_handle::Destruct++none::drop" ∷ []) (tcons (layout Alloc) tnil) dnil;
  };
}

abbrev pub FromParts : Slot 0
FromParts = plain (λ _. BoxParts.the_row Home.the_row Heap.the_row ghosts)

pub held_of : {A : Type 0} (o : Option A) → IsSome o → (held : A) × (o ≡ Some held)
held_of None is = absurd (false≢true is)
held_of (Some held) is = (held, refl)

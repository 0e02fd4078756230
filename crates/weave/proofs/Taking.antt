-- A cell that can take something in takes it in, unless memory is refused.
use Rattle.std.proofs.Common.{◌≡◌, ◌<◌, ℕ, Some, Result, Ok, Err, List, slice_get, get_or, [], refl, sym, subst, ap, ◌∙◌, arith}
use Rattle.std.proofs.Math.ListN.{set}
use Rattle.std.proofs.lemmas.Option.{get_or_from_slice_get}
use Rattle.std.specs.Result.{IsOk, OnOk}
use Rattle.ring_math.specs.Names.{Id}
use Rattle.weave_laws.specs.Cells.{CellInput, Noise}
use Rattle.node_cell.specs.Cell.{Cell, with_input}
use Rattle.node_cell.specs.Faults.{IsDueTo, greater_stamp}
use Rattle.node_cell.specs.Reading.{IsInputOf}
use Rattle.node_cell.specs.Taken.{IsDueToBytes, TookBytes}
use Rattle.node_cell.specs.declared.fault.CellFault.{CellFault}
use Rattle.node_cell.specs.declared.fault.CellFault.TheVariants as fault
use Rattle.node_cell.specs.declared.fault.TheConstants.{LAST_STAMP}
use Rattle.node_cell.proofs.BytesRead.{one_input}
use Rattle.weave.specs.Relayed.{AreInputAt, TookAt}

-- a cell with a stamp left lacks memory alone
pub not_spent : (c : Cell) (i : CellInput) → greater_stamp c i < LAST_STAMP → (f : CellFault) → IsDueTo c i f → f ≡ fault.OutOfMemory
not_spent c i lt (fault.Spent n) due = let spent = due.1 in absurd (omega arith)
not_spent c i lt fault.OutOfMemory due = refl

pub not_spent_bytes : (c : Cell) (bytes : List ℕ) (i : CellInput) → IsInputOf c.node bytes i → greater_stamp c i < LAST_STAMP → (f : CellFault) →
    IsDueToBytes c bytes f → f ≡ fault.OutOfMemory
not_spent_bytes c bytes i is lt f due = not_spent c i lt f (due i is)

-- what a call leaves that was answered
pub ok_holds : {T E P : Type 0} (r : Result T E) → IsOk r → OnOk r P → P
ok_holds (Ok x) ok h = h
ok_holds (Err e) ok h = cc

-- the cell that stands at the place
pub one_cell : (cells : List Cell) (place : ℕ) (c d : Cell) → slice_get cells place ≡ Some c → d ≡ get_or cells place d → d ≡ c
one_cell cells place c d there is = is ∙ get_or_from_slice_get cells place c d there

pub took_at : (cells : List Cell) (place : ℕ) (c d e : Cell) (i : CellInput) → slice_get cells place ≡ Some c → d ≡ get_or cells place d →
    e ≡ with_input d i → TookAt cells place i (set cells place e)
took_at cells place c d e i there is took = record {
  cell = c;
  there = there;
  after_is = ap (set cells place) (took ∙ ap (λ (b : Cell). with_input b i) (one_cell cells place c d there is));
}

-- whichever input the bytes are to the cell's node
pub took_bytes : (cells : List Cell) (place : ℕ) (c d e : Cell) (bytes : List ℕ) → slice_get cells place ≡ Some c → d ≡ get_or cells place d →
    TookBytes d bytes e → (i : CellInput) → AreInputAt cells place bytes i → TookAt cells place i (set cells place e)
took_bytes cells place c d e bytes there is t i a =
    let same : d ≡ a.cell = one_cell cells place a.cell d a.there is in
    let own : IsInputOf d.node bytes i = subst (λ (b : Cell). IsInputOf b.node bytes i) (sym same) a.is in
    let input : t.input ≡ i = one_input d.node bytes t.input i t.is own in
    took_at cells place c d e i there is (t.took ∙ ap (λ (j : CellInput). with_input d j) input)

-- no bytes are noise
pub no_frame : (x : Id) → IsInputOf x [] Noise
no_frame x v f = let is = f.spells.bytes_are in cc

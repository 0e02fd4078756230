use Rattle.std.proofs.Common.{◌≡◌, ◌∙◌, ℕ, Some, List, slice_get, sym, subst}
use Rattle.ring_math.specs.Names.{Id}
use Rattle.wire_codec.specs.Spelling.{Spells}
use Rattle.weave_laws.specs.Cells as plain
use Rattle.node_cell.specs.Reading.{IsInputOf}
use Rattle.weave.proofs.relay.take_letter.Goals as goal

pub handle_at-requires : goal.handle_at-requires
handle_at-requires c =
    let v = c.requires.envelope in
    let own = c.requires.can.at c.place_of-place.result
    (subst (λ (x : Id). slice_get c.args.nodes.now c.place_of-place.result ≡ Some x) c.requires.is.receiver c.place_of-place.ensures) in
    record {
      input = plain.Comes v;
      are = record {
        cell = own.cell;
        there = own.there;
        is = subst (λ (bs : List ℕ). IsInputOf own.cell.node bs (plain.Comes v)) (sym c.as_slice.ensures)
            (record { spells = c.requires.is.spells; addressed = own.can.addressed });
      };
      can = own.can;
    }

pub returns : goal.returns
returns c = λ v is.
    let own = c.requires.can.at c.place_of-place.result
    (subst (λ (x : Id). slice_get c.args.nodes.now c.place_of-place.result ≡ Some x) c.requires.is.receiver c.place_of-place.ensures) in
    record {
      node = subst (λ (x : Id). slice_get c.args.nodes.now c.place_of-place.result ≡ Some x) is.receiver c.place_of-place.ensures;
      took = c.in_ok-handle_at.ensures (plain.Comes v) (record {
        cell = own.cell;
        there = own.there;
        is = record {
          spells = subst (λ (bs : List ℕ). Spells bs v) (sym c.as_slice.ensures) is.spells;
          addressed = sym is.receiver ∙ c.requires.is.receiver ∙ own.can.addressed;
        };
      });
    }

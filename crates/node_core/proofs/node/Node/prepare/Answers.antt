use Rattle.std.proofs.Common.{sym, subst}
use Rattle.node_parts.specs.Sound.{IsSound}
use Rattle.node_core.specs.Inputs.{plain_input}
use Rattle.node_core.proofs.Sound.{step_sound}
use Rattle.node_core.proofs.node.Node.prepare.Goals as goal

pub returns-clause-sound : goal.returns-clause-sound
returns-clause-sound c = λ s st.
    step_sound s (plain_input c.args.input.now) (subst IsSound (sym st.same) st.shows.sound) c.input_law.ensures

pub returns-in_err-prepared-clause-sound : goal.returns-in_err-prepared-clause-sound
returns-in_err-prepared-clause-sound c = λ s st.
    step_sound s (plain_input c.args.input.now) (subst IsSound (sym st.same) st.shows.sound) c.input_law.ensures

pub returns-in_err-make_room-clause-sound : goal.returns-in_err-make_room-clause-sound
returns-in_err-make_room-clause-sound c = λ s st.
    step_sound s (plain_input c.args.input.now) (subst IsSound (sym st.same) st.shows.sound) c.input_law.ensures

pub returns-in_err-list_members-clause-sound : goal.returns-in_err-list_members-clause-sound
returns-in_err-list_members-clause-sound c = λ s st.
    step_sound s (plain_input c.args.input.now) (subst IsSound (sym st.same) st.shows.sound) c.input_law.ensures

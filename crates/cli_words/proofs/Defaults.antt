-- The text of each default spells its number.
use Rattle.std.proofs.Common.{◌≡◌, refl}
use Rattle.cli_words.specs.declared.limits.TheConstants.{DEFAULT_NODES, DEFAULT_NODES_TEXT, DEFAULT_SEED, DEFAULT_SEED_TEXT, DEFAULT_ROOM}
use Rattle.cli_words.specs.declared.limits.TheConstants.{DEFAULT_ROOM_TEXT, DEFAULT_SIZE, DEFAULT_SIZE_TEXT}
use Rattle.cli_words.specs.declared.limits.TheConstants.{DEFAULT_FROM, DEFAULT_FROM_TEXT, DEFAULT_DRAWN, DEFAULT_DRAWN_TEXT}
use Rattle.cli_words.specs.Command.{number_in}

default_nodes : number_in 4294967295 0 DEFAULT_NODES_TEXT.now ≡ DEFAULT_NODES
default_nodes = refl

default_seed : number_in 18446744073709551615 0 DEFAULT_SEED_TEXT.now ≡ DEFAULT_SEED
default_seed = refl

default_room : number_in 4294967295 0 DEFAULT_ROOM_TEXT.now ≡ DEFAULT_ROOM
default_room = refl

default_size : number_in 4294967295 0 DEFAULT_SIZE_TEXT.now ≡ DEFAULT_SIZE
default_size = refl

default_from : number_in 18446744073709551615 0 DEFAULT_FROM_TEXT.now ≡ DEFAULT_FROM
default_from = refl

default_drawn : number_in 4294967295 0 DEFAULT_DRAWN_TEXT.now ≡ DEFAULT_DRAWN
default_drawn = refl

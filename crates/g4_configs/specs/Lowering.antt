-- Return states put below the stacks of a set.
use Rattle.std.specs.Prelude.{◌≡◌, ◌<◌, ℕ, List, [], ◌∷◌, ◌++◌, length, slice_index}
use Rattle.g4_configs.specs.declared.group.Group.{Group}
use Rattle.g4_net.specs.Configurations.{Config, config, above_bottom}

-- the configuration is one of the set above the bottom, with the return states below its own
abbrev pub IsLoweredOf : (Config → Type 0) → List ℕ → Config → Type 0
IsLoweredOf C below c = (returns : List ℕ) × C (config c.state c.alt (above_bottom returns)) × (c.stack ≡ above_bottom (returns ++ below))

-- the groups with other sets of stacks, in turn
abbrev pub with_stacks : List Group → List ℕ → List Group
with_stacks [] nodes = []
with_stacks (x ∷ xs) [] = []
with_stacks (x ∷ xs) (n ∷ nodes) = record { state = x.state; alternative = x.alternative; stacks = n } ∷ with_stacks xs nodes

-- the group's set of stacks has an image
abbrev pub HasImage : List ℕ → Group → Type 0
HasImage images x = x.stacks < length images

-- the group with the image of its set of stacks
abbrev pub imaged : List ℕ → Group → Group
imaged images x = record { state = x.state; alternative = x.alternative; stacks = slice_index images x.stacks }

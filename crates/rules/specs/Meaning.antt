-- What a source is to the loop: the files that it holds, the tokens that it drew, and its timers.
use Rattle.std.specs.Prelude.{◌≡◌, ℕ, ◌<◌, ◌≤◌, ◌^◌, Bool, List}
use Rattle.token.specs.declared.token.Token.{Token}
use Rattle.token.specs.Key.{key_of}

-- a file that a source holds, and the key under which it stands in the poller
pub record Held : Type 0 where
  pub file : ℕ
  pub key : ℕ

pub record Meaning : Type 0 where
  pub held : List Held
  -- the files whose entries it entered and may still touch: those that it holds, and leftovers, which are stuck
  pub entered : List ℕ
  -- the keys that it drew in its latest registration
  pub drew : List ℕ
  -- the counters of its timers
  pub counters : List ℕ
  -- whether it wants hooks
  pub hooks : Bool

-- a factory, by the token that it draws next
abbrev pub Drawer : Type 0
Drawer = Token

-- the factory has drawn, or not, and is still of its slot and version
pub record Forward (d d' : Drawer) : Type 0 where
  pub id : d'.id ≡ d.id
  pub version : d'.version ≡ d.version
  pub sub_id : d.sub_id ≤ d'.sub_id
  -- a sub-id stays within its 16 bits
  pub few : d.sub_id < 2 ^ 16 → d'.sub_id < 2 ^ 16

-- the key was drawn between the two
abbrev pub Drawn : Drawer → Drawer → ℕ → Type 0
Drawn d d' k = (n : ℕ) × (d.sub_id ≤ n) × (n < d'.sub_id) × (k ≡ key_of (record d { sub_id = n }))

-- a call that is given no factory draws nothing
abbrev pub Nothing : ℕ → Type 0
Nothing k = ⊥

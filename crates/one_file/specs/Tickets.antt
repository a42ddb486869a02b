-- What a source draws at a registration: the token of its file, and others that it may need.
use Rattle.std.specs.Prelude.{◌≡◌, ℕ, List, [], ◌∷◌, None}
use Rattle.token.specs.declared.token.Token.{Token}
use Rattle.token.specs.Key.{key_of}
use Rattle.token.specs.Refusal.{Outcome, done, refused}
use Rattle.sys.specs.Laws.{In}
use Rattle.rules.specs.Meaning.{Drawer, Drawn, Forward}

-- the token of the file, and all keys that the source keeps, were drawn
pub record Kept (D : ℕ → Type 0) (token : Token) (keys : List ℕ) : Type 0 where
  pub file : D (key_of token)
  pub all : (k : ℕ) → In k keys → D k

-- a draw is refused where the sub-ids are spent, and for nothing else
abbrev pub Fresh : {T : Type 0} → (T → Token) → (T → List ℕ) → (ℕ → Type 0) → Outcome T → Type 0
Fresh token keys D (done t) = Kept D (token t) (keys t)
Fresh token keys D (refused n c) = (n ≡ 8) × (c ≡ None)

-- the tickets came from the factory `d`, which is `d'` now
pub record DrawnFrom {T : Type 0} (token : T → Token) (keys : T → List ℕ) (d : Drawer) (o : Outcome T) (d' : Drawer) : Type 0 where
  pub forward : Forward d d'
  pub fresh : Fresh token keys (Drawn d d') o

-- one token alone
abbrev pub itself : Token → Token
itself t = t

abbrev pub key_alone : Token → List ℕ
key_alone t = key_of t ∷ []

-- What a move leads to: a legal one to one position alone.
use Rattle.chess_laws.proofs.Words.{◌≡◌, refl, subst, true, other, rights_after, is_calm, Effect, Plain, Double, Move, Setup, Legal, Step, after, en_passant_after, moved}
use Rattle.chess_laws.specs.Step.{stepped}

pub Step-stepped : (p : Setup) (m : Move) (q : Setup) → Step p m q → q ≡ stepped p m
unfolding stepped
Step-stepped p m q step = step.becomes

pub Legal-stepped : (p : Setup) (m : Move) → Legal p m → Step p m (stepped p m)
Legal-stepped p m legal = subst (Step p m) (Step-stepped p m legal.0 legal.1) legal.1

-- a plain move and a double step change the board by the man that goes
pub calm-after : (p : Setup) (m : Move) (e : Effect) → is_calm e ≡ true →
    after p m e
    ≡ record { board = moved p m; side = other p.side; rights = rights_after p.rights m; en_passant = en_passant_after p m e }
calm-after p m Plain h = refl
calm-after p m Double h = refl
calm-after p m e h = absurd (cc)

-- The queries that ask nothing (this project's own).
use Rattle.std.specs.Prelude.{None, false, replicate}
use Rattle.sig_index.specs.declared.head_query.HeadQuery.{HeadQuery}
use Rattle.sig_index.specs.declared.mat_query.MatQuery.{MatQuery}

-- No item of a head is asked for.
abbrev pub any_head : HeadQuery
any_head =
    record {
      white = None;
      black = None;
      player = None;
      event = None;
      site = None;
      round = None;
      result = None;
      year = None;
      welo = None;
      belo = None;
      plies = None;
      eco = None;
      deleted = None;
      mark = None;
    }

-- Each count of men from 0 to 16, at a ply from 0 to 131,071, at one ply alone, and the colours not exchanged.
abbrev pub any_material : MatQuery
any_material =
    record {
      range = record { lo = replicate 10 0; hi = replicate 10 16 };
      ply_lo = 0;
      ply_hi = 131071;
      streak = 1;
      swap = false;
    }

pub mod Lay  -- bytes of one list laid over another

pub mod Laws  -- which bytes are laid, and which stay

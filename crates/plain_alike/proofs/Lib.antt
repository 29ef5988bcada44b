pub mod Alike  -- both engines are the model
